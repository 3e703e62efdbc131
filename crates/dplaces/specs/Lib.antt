pub mod DPlaces
