-- The table of D bits (document 01, "Frames": "One constant table holds the place of each of the 1,022 D bits of the eight kinds").
-- Assumes nothing.
use Rattle.std.specs.Prelude.{List, map, ℕ}
use Rattle.reading.specs.Reading.{joined}
use Rattle.channel.specs.declared.Kind.{Kind}
use Rattle.channel.specs.declared.Kind.TheVariants.{Speech, Data, Om, Configuration, NoSpeech, Lower, Amr670, Amr740}
use Rattle.channel.specs.Kinds.{kinds}
use Rattle.channel.specs.Places.{d_places}

-- the whole table: the places of the D bits of the eight kinds, one kind behind the other
unfoldable pub all_places : List ℕ
all_places = joined (map d_places kinds)

-- where a kind's part of the table begins
abbrev pub d_from : Kind → ℕ
d_from Speech = 0
d_from Data = 112
d_from Om = 238
d_from Configuration = 358
d_from NoSpeech = 483
d_from Lower = 608
d_from Amr670 = 734
d_from Amr740 = 871
