-- What a loop that fills a page keeps: the items done, and the buffer with their records in front; over any rules and any records.
-- Assumes nothing.
use mathlib.Core.Path.{◌≡◌, refl, sym, ◌∙◌, ap, ap₂, subst}
use mathlib.Core.List.{List, [], ◌∷◌, ◌++◌, append_assoc, append-nil}
use Prim.Native.Nat.{ℕ, ◌+◌, ◌-◌, ◌≤◌, ◌<◌}
use native.Mathlib.Nat.{le_of_eq}
use native.Mathlib.Omega.{arith}
use borrow.Rule.Slice.PartMut.{mid_of, put_mid}
use lib.ListN.{length, take, drop, length-append, length-drop, drop_of_length-le}
use lib.Seq.{take_all, drop-drop, take_at, drop_at}
use Rattle.reading.specs.Reading.{Rules, Cursor, Item, Obeys, over, over_all, Stretch, Sound}
use Rattle.reading.specs.Paging.{records_by, Page, Filled}
use Rattle.reading.proofs.ReadingLaws.{over-append, stretch-join}
use Rattle.reading.proofs.PageLaws.{records-more, length-records, page_full, page-end, page_tight}

module _ (a : ℕ) (xs : List ℕ) where
  pub tail-is : mid_of a (length xs - a) xs ≡ drop a xs
  tail-is = take_all (length xs - a) (drop a xs) (le_of_eq (length-drop a xs))

  rest-is : drop (length xs - a) (drop a xs) ≡ []
  rest-is = drop_of_length-le (drop a xs) {i = length xs - a} (le_of_eq (length-drop a xs))

  -- the length of the part from a on
  pub length-tail : length (mid_of a (length xs - a) xs) ≡ length xs - a
  length-tail = ap length tail-is ∙ length-drop a xs

-- xs is p, of length a, and then d; whoever is lent xs from a on puts v there, n long, and keeps the rest
lend_at : (p d v xs ys : List ℕ) (a n : ℕ) → xs ≡ p ++ d → length p ≡ a → ys ≡ v ++ drop n (mid_of a (length xs - a) xs)
    → put_mid a (length xs - a) xs ys ≡ (p ++ v) ++ drop n d
lend_at p d v xs ys a n e l q =
    let t : take a xs ≡ p = ap (take a) e ∙ take_at p d a l in
    let r : drop a xs ≡ d = ap (drop a) e ∙ drop_at p d a l in
    let y : ys ≡ v ++ drop n d = q ∙ ap (λ m. v ++ drop n m) (tail-is a xs ∙ r) in
    rw (rest-is a xs, t, y, append-nil, append_assoc)

-- the state of the loop
pub record Filling {W X F : Type 0} (R : Rules W X F) (record_of : Item F → List ℕ) (w : W) (c : Cursor X) (most : ℕ) (before buffer : List ℕ) (at items : ℕ) (cursor : Cursor X) : Type 0 where
  pub done : List (Item F)
  pub stretch : Stretch R w c done
  pub reached : cursor ≡ over_all R c done
  pub counted : items ≡ length done
  pub kept : items ≤ most
  pub sized : at ≡ length (records_by record_of done)
  pub fits : at ≤ length before
  pub long : length buffer ≡ length before
  pub written : buffer ≡ records_by record_of done ++ drop at before

module _ {W X F : Type 0} (R : Rules W X F) (record_of : Item F → List ℕ) (w : W) (c : Cursor X) (most : ℕ) (before : List ℕ) where
  -- nothing is done
  pub fill_start : Filling R record_of w c most before before 0 0 c
  fill_start = record { done = []; stretch = tt; reached = refl; counted = refl; kept = omega arith; sized = refl; fits = omega arith; long = refl; written = refl }

  -- one item more
  pub fill_turn : (buffer : List ℕ) (at items : ℕ) (cursor next : Cursor X) (x : Item F) (size : ℕ) (lent : List ℕ) → Filling R record_of w c most before buffer at items cursor → items < most
      → Obeys R w cursor x → next ≡ over R cursor x → length (record_of x) ≡ size → size ≤ length buffer - at → lent ≡ record_of x ++ drop size (mid_of at (length buffer - at) buffer)
      → length (put_mid at (length buffer - at) buffer lent) ≡ length buffer → Filling R record_of w c most before (put_mid at (length buffer - at) buffer lent) (at + size) (items + 1) next
  fill_turn buffer at items cursor next x size lent s l o r long m e same =
      let o' : Obeys R w (over_all R c s.done) x = subst (λ (y : Cursor X). Obeys R w y x) s.reached o in
      let put : put_mid at (length buffer - at) buffer lent ≡ (records_by record_of s.done ++ record_of x) ++ drop size (drop at before) =
      lend_at (records_by record_of s.done) (drop at before) (record_of x) buffer lent at size s.written (sym s.sized) e in
      record {
        done = s.done ++ (x ∷ []);
        stretch = stretch-join R w c s.done (x ∷ []) s.stretch (o', tt);
        reached = r ∙ ap (λ (y : Cursor X). over R y x) s.reached ∙ sym (over-append R w c s.done (x ∷ []));
        counted = omega (arith, s.counted, length-append s.done (x ∷ []));
        kept = omega arith;
        sized = omega (arith, s.sized, length-records record_of s.done x);
        fits = omega (arith, s.fits, s.long);
        long = same ∙ s.long;
        written = put ∙ ap₂ (λ (l m : List ℕ). l ++ m) (sym (records-more record_of s.done x)) (drop-drop size at before);
      }

-- a page that is filled, at each way out
module _ {W X F : Type 0} (R : Rules W X F) (record_of : Item F → List ℕ) (w : W) (S : Sound R w) (c : Cursor X) (most : ℕ) (before buffer : List ℕ) (at items : ℕ) (cursor : Cursor X)
    (inside : c.position ≤ R.end w) (s : Filling R record_of w c most before buffer at items cursor) where
  filled_as : Page R record_of w c most (length before) s.done → Filled R record_of w c most before buffer items at cursor
  filled_as p = record { page = s.done; longest = p; counted = s.counted; sized = s.sized; moved = s.reached; written = s.written }

  few : length s.done ≤ most
  few = omega (arith, s.counted, s.kept)

  room : length (records_by record_of s.done) ≤ length before
  room = omega (arith, s.sized, s.fits)

  pub filled_full : most ≤ items → Filled R record_of w c most before buffer items at cursor
  filled_full h = filled_as (page_full R record_of w S c most (length before) inside s.done s.stretch few room (omega (arith, s.counted)))

  pub filled-end : R.end w ≤ cursor.position → Filled R record_of w c most before buffer items at cursor
  filled-end h = filled_as (page-end R record_of w S c most (length before) inside s.done s.stretch few room (subst (λ (y : Cursor X). R.end w ≤ y.position) s.reached h))

  pub filled_tight : (x : Item F) (size : ℕ) → Obeys R w cursor x → size ≡ length (record_of x) → length buffer - at < size → Filled R record_of w c most before buffer items at cursor
  filled_tight x size o e h =
      filled_as
      (page_tight R record_of w S c most (length before) inside s.done s.stretch few room x (subst (λ (y : Cursor X). Obeys R w y x) s.reached o)
      (omega (arith, s.sized, s.long, s.fits)))
