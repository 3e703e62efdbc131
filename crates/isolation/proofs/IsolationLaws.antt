-- Isolation (document 02, Ask 5): from a session's opening to its closing, whatever other keys open, close or page, its pages are the same.
-- Assumes nothing.
use mathlib.Core.Path.{◌≡◌, refl, sym, ◌∙◌, ap, subst}
use mathlib.Core.Bool.{Bool, true, false, cond}
use mathlib.Core.List.{List, [], ◌∷◌}
use Prim.Native.Nat.{ℕ, zero, suc, ◌<◌, ◌≤◌}
use native.Mathlib.Omega.{arith}
use borrow.Author.Tests.{eq-eqb, ne_eqb, eqb-false, ltb-false, le-ltb}
use lib.Dec.{eqb, ltb}
use lib.ListN.{length, set, length-set}
use lib.Seq.{get_or-set_same, get_or-set_other}
use Rattle.std.specs.Prelude.{is_none}
use Rattle.std.specs.List.{position}
use Rattle.sessions.specs.declared.Session.{Session}
use Rattle.sessions.specs.Sessions.{blank, is_free, holds, held_in, free_at, found_in}
use Rattle.call.specs.declared.Answer.{Answer}
use Rattle.call.specs.Call.{next}
use Rattle.call.proofs.NumberLaws.{passed}
use Rattle.paging.specs.Paging.{PageCall}
use Rattle.paging.proofs.HarvestLaws.{answer-one}
use Rattle.serving.specs.declared.Opened.{Opened}
use Rattle.serving.specs.Serving.{open_refusal, new_session, opened_at, OpenedBy, OpenCall, standing, name_refusal, ClosedBy, CloseCall, request_of, moved_to}
use Rattle.isolation.specs.Isolation.{Ask, Visit, Turn, mine, other, Happened, Others, visits, asks, Alone}
use Rattle.isolation.specs.Held.{Holds}
use Rattle.isolation.proofs.PlaceLaws.{free_le, none_free, lowest_is, held-within, name_passed, name-taken}
use Rattle.isolation.proofs.KeepLaws.{call_keeps, page_goes, still-holds}

-- ---- the pages of a session among others are those of one with nobody else there
pub company : (place key : ℕ) (ts : List Turn) (ss after : List Session) → Holds ss place key → Others key ts → Happened place key ss ts after
    → Alone (standing ss place) (visits ts) (standing after place) × Holds after place key
company place key [] ss after h os e =
    subst (λ (l : List Session). Alone (standing ss place) [] (standing l place) × Holds l place key) (sym e) (refl, h)
company place key (mine v ∷ ts) ss after h os (between, made, rest) =
    let (call, stood) = page_goes ss place key h v between made in
    let (alone, held) = company place key ts between after (still-holds ss place key h (moved_to (standing ss place) (next v.answer)) between h.held stood) os rest in
    ((call, subst (λ (s : Session). Alone s (visits ts) (standing after place)) stood.0 alone), held)
company place key (other c ∷ ts) ss after h (ne, os) (between, made, rest) =
    let stood = call_keeps ss place key h c between ne made in
    let (alone, held) = company place key ts between after (still-holds ss place key h (standing ss place) between h.held stood) os rest in
    (subst (λ (s : Session). Alone s (visits ts) (standing after place)) stood.0 alone, held)

-- ---- and those are determined by what is asked
one_more : (v w : Visit) (vs ws : List Visit) → v ≡ w → vs ≡ ws → ◌≡◌ {A = List Visit} (v ∷ vs) (w ∷ ws)
one_more v w vs ws e f = λ i. e i ∷ f i

pub alone_one : (vs ws : List Visit) (s x y : Session) → Alone s vs x → Alone s ws y → asks vs ≡ asks ws → vs ≡ ws
alone_one [] [] s x y a b e = refl
alone_one [] (w ∷ ws) s x y a b e = absurd (apart e)
  where
    apart : ◌≡◌ {A = List Ask} [] (asks (w ∷ ws)) → ⊥
    apart e = let l : 0 ≡ length (asks (w ∷ ws)) = ap length e in omega arith
alone_one (v ∷ vs) [] s x y a b e = absurd (apart e)
  where
    apart : ◌≡◌ {A = List Ask} (asks (v ∷ vs)) [] → ⊥
    apart e = let l : length (asks (v ∷ vs)) ≡ 0 = ap length e in omega arith
alone_one (v ∷ vs) (w ∷ ws) s x y (p, a) (q, b) e = go (head_same e) (alone_one vs ws)
  where
    first : List Ask → Ask
    first [] = v.ask
    first (a ∷ more) = a

    behind : List Ask → List Ask
    behind [] = []
    behind (a ∷ more) = more

    head_same : asks (v ∷ vs) ≡ asks (w ∷ ws) → v.ask ≡ w.ask
    head_same e = ap first e

    go : v.ask ≡ w.ask → ((s x y : Session) → Alone s vs x → Alone s ws y → asks vs ≡ asks ws → vs ≡ ws) → v ∷ vs ≡ w ∷ ws
    go same ih =
        let k = w.ask in
        let p' : PageCall k.capture (request_of s k.brought) k.buffer v.answer v.after = subst (λ (z : Ask). PageCall z.capture (request_of s z.brought) z.buffer v.answer v.after) same p in
        let one = answer-one k.capture (request_of s k.brought) k.buffer v.answer w.answer v.after w.after p' q in
        let rest : vs ≡ ws = ih (moved_to s (next w.answer)) x y (subst (λ (c : Answer). Alone (moved_to s (next c)) vs x) one.0 a) b (ap behind e) in
        one_more v w vs ws (λ i. record { ask = same i; answer = one.0 i; after = one.1 i }) rest

-- ---- from the opening on
same_key : (key : ℕ) → eqb key key ≡ true
same_key key = eq-eqb key key refl

-- an opening that is not refused
pub record Taken (ss : List Session) (key capture direction : ℕ) (a : Opened) (after : List Session) : Type 0 where
  pub short : length ss ≤ 32
  pub way : direction ≤ 1
  pub absent : held_in ss key ≡ false
  pub within : free_at ss < length ss
  pub place : a.place ≡ free_at ss
  pub list : after ≡ set ss (free_at ss) (new_session key capture direction)

module _ (ss : List Session) (key capture direction : ℕ) (a : Opened) (after : List Session) (call : OpenCall ss key capture direction a after) (taken-up : a.number ≡ 0) where
  -- none of the numbers was given
  no_number : open_refusal (found_in ss key) (length ss) direction ≡ 0
  no_number = go (open_refusal (found_in ss key) (length ss) direction) call
    where
      go : (number : ℕ) → OpenedBy number ss (new_session key capture direction) a after → number ≡ 0
      go zero x = refl
      go (suc number) x = let e : a.number ≡ suc number = ap (λ (o : Opened). o.number) x.0 in absurd (omega arith)

  pub open_taken : Taken ss key capture direction a after
  open_taken =
      let (two, e₁) = passed (ltb 32 (length ss)) 2 _ (omega arith) no_number in
      let (one, e₂) = passed (ltb 1 direction) 1 _ (omega arith) e₁ in
      let (nine, e₃) = passed (held_in ss key) 9 _ (omega arith) e₂ in
      let (eight, _) = passed (is_none (position is_free ss)) 8 _ (omega arith) e₃ in
      let x = subst (λ (k : ℕ). OpenedBy k ss (new_session key capture direction) a after) no_number call in
      record {
        short = omega (arith, ltb-false 32 (length ss) two);
        way = omega (arith, ltb-false 1 direction one);
        absent = nine;
        within = let ne = eqb-false (free_at ss) (length ss) (sym (none_free ss) ∙ eight) in omega (arith, free_le ss);
        place = ap (λ (o : Opened). o.place) x.0;
        list = x.1;
      }

  -- the session stands at its place, new
  pub open_standing : standing after a.place ≡ new_session key capture direction
  open_standing =
      let t = open_taken in
      ap (λ (i : ℕ). standing after i) t.place
      ∙ ap (λ (l : List Session). standing l (free_at ss)) t.list
      ∙ get_or-set_same ss (free_at ss) (new_session key capture direction) blank t.within

  -- and its key holds it
  pub open_holds : Holds after a.place key
  open_holds =
      let t = open_taken in
      record {
        short = omega (arith, t.short, ap length t.list ∙ length-set ss (free_at ss) (new_session key capture direction));
        held = ap (λ (s : Session). holds s key) open_standing ∙ same_key key;
      }

-- the pages of a session, from its opening on, are those of one with nobody else there
module _ (ss opened after : List Session) (key capture direction : ℕ) (a : Opened) (ts : List Turn) (call : OpenCall ss key capture direction a opened) (taken-up : a.number ≡ 0)
    (os : Others key ts) (happened : Happened a.place key opened ts after) where
  pub as_alone : Alone (new_session key capture direction) (visits ts) (standing after a.place)
  as_alone =
      subst (λ (s : Session). Alone s (visits ts) (standing after a.place)) (open_standing ss key capture direction a opened call taken-up)
      (company a.place key ts opened after (open_holds ss key capture direction a opened call taken-up) os happened).0

  -- its closing is not refused, and frees its place
  pub close_taken : (number : ℕ) (later : List Session) → CloseCall after a.place key number later → (number ≡ 0) × (later ≡ set after a.place blank)
  close_taken number later =
      let h = (company a.place key ts opened after (open_holds ss key capture direction a opened call taken-up) os happened).1 in
      subst (λ (k : ℕ). ClosedBy k after a.place number later → (number ≡ 0) × (later ≡ set after a.place blank)) (sym (name-taken after a.place key h)) (λ x. x)

-- isolation: in any two lists that take the opening, among whatever calls of other keys, the same requests get the same pages, byte for byte and answer for
-- answer. What a capture number means stands in the requests: the bytes, and n
pub isolated : (key capture direction : ℕ) (ys zs opened-y opened-z after-y after-z : List Session) (a b : Opened) (ts us : List Turn)
    → OpenCall ys key capture direction a opened-y → a.number ≡ 0 → OpenCall zs key capture direction b opened-z → b.number ≡ 0
    → Others key ts → Happened a.place key opened-y ts after-y → Others key us → Happened b.place key opened-z us after-z
    → asks (visits ts) ≡ asks (visits us) → visits ts ≡ visits us
isolated key capture direction ys zs opened-y opened-z after-y after-z a b ts us p x q y os hs ou hu =
    alone_one (visits ts) (visits us) (new_session key capture direction) (standing after-y a.place) (standing after-z b.place)
    (as_alone ys opened-y after-y key capture direction a ts p x os hs) (as_alone zs opened-z after-z key capture direction b us q y ou hu)

-- what an opening may notice of others, if none of them uses its key, in lists that number 2 does not refuse: a full table, and its place
pub notices : (key capture direction : ℕ) (ys zs after later : List Session) (a b : Opened) → length ys ≤ 32 → length zs ≤ 32 → held_in ys key ≡ false → held_in zs key ≡ false
    → OpenCall ys key capture direction a after → OpenCall zs key capture direction b later → (a.number ≡ 8 → ⊥) → (b.number ≡ 8 → ⊥) → a.number ≡ b.number
notices key capture direction ys zs after later a b ly lz hy hz p q na nb =
    let x : a.number ≡ cond (ltb 1 direction) 1 (cond (is_none (position is_free ys)) 8 0) = answered ys after a p ∙ rw (le-ltb 32 (length ys) ly, hy) in
    let y : b.number ≡ cond (ltb 1 direction) 1 (cond (is_none (position is_free zs)) 8 0) = answered zs later b q ∙ rw (le-ltb 32 (length zs) lz, hz) in
    go (ltb 1 direction) (is_none (position is_free ys)) (is_none (position is_free zs)) x y
  where
    answered : (ss after : List Session) (a : Opened) → OpenCall ss key capture direction a after → a.number ≡ open_refusal (found_in ss key) (length ss) direction
    answered ss after a = by_number (open_refusal (found_in ss key) (length ss) direction)
      where
        by_number : (number : ℕ) → OpenedBy number ss (new_session key capture direction) a after → a.number ≡ number
        by_number zero x = ap (λ (o : Opened). o.number) x.0
        by_number (suc number) x = ap (λ (o : Opened). o.number) x.0

    go : (d f g : Bool) → a.number ≡ cond d 1 (cond f 8 0) → b.number ≡ cond d 1 (cond g 8 0) → a.number ≡ b.number
    go true f g x y = x ∙ sym y
    go false true g x y = absurd (na x)
    go false false true x y = absurd (nb y)
    go false false false x y = x ∙ sym y

-- ---- a place that was freed
-- the lowest free place is the first to be taken again: the next opening that neither 1 nor 9 refuses gets it
pub freed_first : (ss after later : List Session) (place key k capture direction : ℕ) (a : Opened) → CloseCall ss place key 0 after → ((i : ℕ) → i < place → is_free (standing ss i) ≡ false)
    → direction ≤ 1 → held_in after k ≡ false → OpenCall after k capture direction a later → a ≡ opened_at 0 place
freed_first ss after later place key k capture direction a closed below way absent call =
    let (passed-by, e) = freed (name_refusal (standing ss place) (length ss) key) refl closed in
    let (short, held) = name_passed (standing ss place) (length ss) key passed-by in
    let inside = held-within ss place key held in
    let long : length after ≡ length ss = ap length e ∙ length-set ss place blank in
    let lowest : free_at after ≡ place = lowest_is after place
    (ap is_free (ap (λ (l : List Session). standing l place) e ∙ get_or-set_same ss place blank blank inside))
    (λ i l. ap is_free (ap (λ (m : List Session). standing m i) e ∙ get_or-set_other ss place i blank blank (λ p. omega arith)) ∙ below i l) in
    let none : open_refusal (found_in after k) (length after) direction ≡ 0 = rw (le-ltb 32 (length after) (omega (arith, long, short)), le-ltb 1 direction way, absent, none_free after ∙ ne_eqb (free_at after) (length after) (λ p. omega (arith, p, lowest, long, inside))) in
    (subst (λ (n : ℕ). OpenedBy n after (new_session k capture direction) a later) none call).0 ∙ ap (opened_at 0) lowest
  where
    freed : (number : ℕ) → name_refusal (standing ss place) (length ss) key ≡ number → ClosedBy number ss place 0 after → (name_refusal (standing ss place) (length ss) key ≡ 0) × (after ≡ set ss place blank)
    freed zero e x = (e, x.1)
    freed (suc number) e x = let z : 0 ≡ suc number = x.0 in absurd (omega arith)
