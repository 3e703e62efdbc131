-- A page by its number, over any rules and any records: no second answer fits, and what came of a page that was not refused.
-- Assumes nothing.
use mathlib.Core.Path.{◌≡◌, refl, sym, ◌∙◌, ap}
use mathlib.Core.Bool.{Bool, true, false, cond}
use mathlib.Core.List.{List, ◌++◌}
use Prim.Native.Nat.{ℕ, zero, suc}
use native.Mathlib.Omega.{arith}
use lib.ListN.{length, drop}
use Rattle.reading.specs.Reading.{Rules, Item, over_all, Sound}
use Rattle.reading.specs.Paging.{records_by, first_left, Filled}
use Rattle.reading.proofs.PageLaws.{page-one}
use Rattle.channel.specs.Verdict.{Context}
use Rattle.call.specs.declared.CursorNumbers.{CursorNumbers}
use Rattle.call.specs.declared.Answer.{Answer}
use Rattle.call.specs.Call.{cursor_by, next, answered_by, refused}
use Rattle.paging.specs.Paging.{Paged, PagedBy}

module _ {W F : Type 0} (R : Rules W Context F) (record_of : Item F → List ℕ) (w : W) (c : CursorNumbers) (most : ℕ) (buffer : List ℕ) where
  -- what is answered of a page
  abbrev answer_of : List (Item F) → Answer
  answer_of xs = cond (first_left R record_of w (cursor_by c) xs) (refused 4 c) (answered_by (length xs) (length (records_by record_of xs)) (over_all R (cursor_by c) xs))

  -- no second answer and no second buffer fit a request
  pub paged_one : Sound R w → (number : ℕ) (a b : Answer) (after later : List ℕ) → PagedBy R record_of number w c most buffer a after → PagedBy R record_of number w c most buffer b later
      → (a ≡ b) × (after ≡ later)
  paged_one S zero a b after later (xs, p, e, q) (ys, r, f, s) =
      let z : xs ≡ ys = page-one R record_of w S (cursor_by c) most (length buffer) xs ys p r in
      (e ∙ ap answer_of z ∙ sym f, q ∙ ap (λ (l : List (Item F)). records_by record_of l ++ drop (length (records_by record_of l)) buffer) z ∙ sym s)
  paged_one S (suc number) a b after later x y = (x.0 ∙ sym y.0, x.1 ∙ sym y.1)

  -- a page that was not refused
  pub record Got (a : Answer) (after : List ℕ) : Type 0 where
    pub filled : Filled R record_of w (cursor_by c) most buffer after a.items a.bytes (cursor_by (next a))
    pub left : first_left R record_of w (cursor_by c) filled.page ≡ false

  module _ (a : Answer) (after : List ℕ) (taken-up : a.number ≡ 0) where
    -- 1 to 3 did not refuse it
    pub not_by_number : (number : ℕ) → PagedBy R record_of number w c most buffer a after → number ≡ 0
    not_by_number zero p = refl
    not_by_number (suc number) p = let e : a.number ≡ suc number = ap (λ (b : Answer). b.number) p.0 in absurd (omega arith)

    -- nor did 4
    pub got_paged : Paged R record_of w c most buffer a after → Got a after
    got_paged (xs, p, e, q) = pick (first_left R record_of w (cursor_by c) xs) refl e
      where
        pick : (b : Bool) → first_left R record_of w (cursor_by c) xs ≡ b → a ≡ cond b (refused 4 c) (answered_by (length xs) (length (records_by record_of xs)) (over_all R (cursor_by c) xs)) → Got a after
        pick true f e = let z : a.number ≡ 4 = ap (λ (b : Answer). b.number) e in absurd (omega arith)
        pick false f e =
            let b : a.bytes ≡ length (records_by record_of xs) = ap (λ (b : Answer). b.bytes) e in
            record {
              filled =
                  record {
                    page = xs;
                    longest = p;
                    counted = ap (λ (b : Answer). b.items) e;
                    sized = b;
                    moved = ap (λ (b : Answer). cursor_by (next b)) e;
                    written = q ∙ ap (λ (k : ℕ). records_by record_of xs ++ drop k buffer) (sym b);
                  };
              left = f;
            }
