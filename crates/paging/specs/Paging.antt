-- What paging answers (document 01, "Records and calls": Paging and the table of numbers). Nothing here says how one searches.
-- Assumes nothing.
use Rattle.std.specs.Prelude.{◌≡◌, cond, List, ◌++◌, ℕ, zero, suc, length, drop}
use Rattle.reading.specs.Reading.{Rules, Item, over_all}
use Rattle.reading.specs.Paging.{records_by, Page, first_left}
use Rattle.channel.specs.Verdict.{Context}
use Rattle.channel.specs.Frames.{capture_of, rules}
use Rattle.channel.specs.Record.{record_of}
use Rattle.call.specs.declared.CursorNumbers.{CursorNumbers}
use Rattle.call.specs.declared.Answer.{Answer}
use Rattle.call.specs.Call.{terms_by, cursor_by, answered_by, refused}
use Rattle.call.specs.declared.PageRequest.{PageRequest}
use Rattle.refusal.specs.Refusal.{page_refusal}

-- over any rules whose contexts are numbers, and any records
module _ {W F : Type 0} (R : Rules W Context F) (record_of : Item F → List ℕ) where
  -- a request that 1 to 3 do not refuse: the answer, and the buffer after it, in which the records stand in front and the rest is unchanged
  abbrev pub Paged : W → CursorNumbers → ℕ → List ℕ → Answer → List ℕ → Type 0
  Paged w c most buffer answer after =
      (xs : List (Item F))
      × Page R record_of w (cursor_by c) most (length buffer) xs
      × (answer ≡ cond (first_left R record_of w (cursor_by c) xs) (refused 4 c) (answered_by (length xs) (length (records_by record_of xs)) (over_all R (cursor_by c) xs)))
      × (after ≡ records_by record_of xs ++ drop (length (records_by record_of xs)) buffer)

  -- by the number: a refusal leaves the buffer as it was
  abbrev pub PagedBy : ℕ → W → CursorNumbers → ℕ → List ℕ → Answer → List ℕ → Type 0
  PagedBy zero w c most buffer answer after = Paged w c most buffer answer after
  PagedBy (suc number) w c most buffer answer after = (answer ≡ refused (suc number) c) × (after ≡ buffer)

-- every request: the capture, what is asked of it, the buffer; the answer, and the buffer after it
abbrev pub PageCall : List ℕ → PageRequest → List ℕ → Answer → List ℕ → Type 0
PageCall capture r buffer answer after =
    PagedBy rules record_of (page_refusal (length capture) r) (capture_of capture r.n (terms_by r.terms)) r.cursor r.most buffer answer after
