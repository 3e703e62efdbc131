-- A page that ends before n is answered as it was when the capture has grown; how one that reaches n is asked again so that it ends before n; and that none
-- which reaches n can stay (document 02, Ask 2).
-- Assumes nothing.
use mathlib.Core.Path.{◌≡◌, refl, sym, ap, subst}
use mathlib.Core.Bool.{Bool, true, false, cond}
use mathlib.Core.List.{List, [], ◌∷◌, ◌++◌}
use Prim.Native.Nat.{ℕ, ◌≤◌, ◌<◌}
use native.Mathlib.Omega.{arith}
use borrow.Author.Tests.{ltb-false}
use lib.Dec.{ltb}
use lib.ListN.{length}
use Rattle.reading.specs.Reading.{Cursor, Item, gap, frame, Obeys, over_all, Reading, Leading, AllBut}
use Rattle.reading.proofs.ItemLaws.{one}
use Rattle.reading.proofs.ReadingLaws.{over-append}
use Rattle.reading.proofs.GrowthLaws.{page_grown}
use Rattle.channel.specs.Verdict.{Context}
use Rattle.channel.specs.Frames.{Capture, capture_of, Frame, rules}
use Rattle.channel.specs.Growth.{Grown, unsettled}
use Rattle.channel.specs.Record.{size_of, record_of}
use Rattle.channel.proofs.FrameLaws.{tail_at, sound}
use Rattle.channel.proofs.GrowthLaws.{tailed, due-stays, keeps}
use Rattle.call.specs.declared.Answer.{Answer}
use Rattle.call.specs.Call.{terms_by, cursor_by, next, answered_by, refused}
use Rattle.call.specs.declared.PageRequest.{PageRequest}
use Rattle.refusal.specs.Refusal.{page_refusal}
use Rattle.refusal.proofs.RefusalLaws.{admitted, admit}
use Rattle.numbers.proofs.SizeLaws.{record_length}
use Rattle.paging.specs.Paging.{Paged, PagedBy, PageCall}
use Rattle.paging.proofs.HarvestLaws.{not-refused, answered-good}
use Rattle.growth.specs.Polling.{Bounded, GrownTo, same_of}

-- no record is smaller where an item changed: a frame stays of its kind, and no record is smaller than that of a gap
no_smaller : (w v : Capture) → Grown w v → (c : Cursor Context) (x y : Item Frame) → Obeys rules w c x → Obeys rules v c y → length (record_of x) ≤ length (record_of y)
no_smaller w v G c (gap s l) (gap t m) a b = omega (arith, record_length (gap s l), record_length (gap t m))
no_smaller w v G c (gap s l) (frame g) a b = omega (arith, record_length (gap s l), record_length (frame g))
no_smaller w v G c (frame f) y a b =
    let f' = tailed f (tail_at v c.position f.kind) in
    let e : frame f' ≡ y = one rules v (sound v) c (frame f') y (due-stays w v G c.context c.position f a) b in
    omega (arith, record_length (frame f), record_length y, ap size_of e)

-- a request that 1 to 3 do not refuse of the old capture, they do not refuse of the grown one
pub request-stays : (old : List ℕ) (r : PageRequest) → page_refusal (length old) r ≡ 0 → (capture : List ℕ) (n : ℕ) → r.n ≤ n → Bounded capture n
    → page_refusal (length capture) (same_of n r) ≡ 0
request-stays old r e capture n more bound =
    let h = admitted (length old) r e in
    admit (length capture) (same_of n r)
    (record { way = h.way; some = h.some; short = bound.short; count = bound.count; inside = omega (arith, h.inside); known = h.known })

module _ (old : List ℕ) (r : PageRequest) (buffer : List ℕ) (a : Answer) (after : List ℕ) (call : PageCall old r buffer a after) (taken-up : a.number ≡ 0) (ends : a.position < r.n)
    (capture : List ℕ) (n : ℕ) (G : GrownTo r.terms old r.n capture n) (bound : Bounded capture n) where
  abbrev w : Capture
  w = capture_of old r.n (terms_by r.terms)

  abbrev v : Capture
  v = capture_of capture n (terms_by r.terms)

  abbrev c : Cursor Context
  c = cursor_by r.cursor

  -- an item stands behind the page
  not-all : (xs : List (Item Frame)) → Leading rules w c xs → (over_all rules c xs).position < r.n → AllBut rules unsettled w c xs
  not-all xs (ys, q) h = (ys, q, go ys q)
    where
      go : (ys : List (Item Frame)) → Reading rules w c (xs ++ ys) → unsettled ≤ length ys
      go [] q = let e = over-append rules w c xs [] in absurd (omega (arith, q.1, ap (λ (y : Cursor Context). y.position) e))
      go (y ∷ ys) q = omega arith

  paged : Paged rules record_of w r.cursor r.most buffer a after → Paged rules record_of v r.cursor r.most buffer a after
  paged ([], p, e, q) = absurd (go (ltb r.cursor.position r.n) refl e)
    where
      go : (b : Bool) → ltb r.cursor.position r.n ≡ b → a ≡ cond b (refused 4 r.cursor) (answered_by 0 0 c) → ⊥
      go true f e = let z : a.number ≡ 4 = ap (λ (b : Answer). b.number) e in omega arith
      go false f e = let z : a.position ≡ r.cursor.position = ap (λ (b : Answer). b.position) e in omega (arith, ltb-false r.cursor.position r.n f)
  paged (x ∷ xs, p, e, q) =
      let z : a.position ≡ (over_all rules c (x ∷ xs)).position = ap (λ (b : Answer). b.position) e in
      let h : AllBut rules unsettled w c (x ∷ xs) = not-all (x ∷ xs) p.leads (omega arith) in
      (x ∷ xs, page_grown rules unsettled w v (sound w) (sound v) (keeps w v G) c (x ∷ xs) h record_of (no_smaller w v G) (omega arith) r.most (length buffer) p, e, q)

  -- a page that is not refused and ends before n: the same request of the grown capture has the same answer and the same bytes
  pub page-stays : PageCall capture (same_of n r) buffer a after
  page-stays =
      let e = not-refused old r buffer a after call taken-up in
      subst (λ (k : ℕ). PagedBy rules record_of k v r.cursor r.most buffer a after) (sym (request-stays old r e capture n G.more bound))
      (paged (subst (λ (k : ℕ). PagedBy rules record_of k w r.cursor r.most buffer a after) e call))

  -- its cursor is never refused for the grown capture
  pub cursor-stays : (most : ℕ) → 0 < most → page_refusal (length capture) (record { n = n; terms = r.terms; cursor = next a; most = most }) ≡ 0
  cursor-stays = answered-good capture (same_of n r) buffer a after page-stays taken-up
