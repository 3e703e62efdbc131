-- Leading parts of a reading, and the page that is the longest of them, over any rules and any records.
-- Assumes nothing.
use mathlib.Core.Path.{◌≡◌, refl, sym, ◌∙◌, ap, ap₂}
use mathlib.Core.List.{List, [], ◌∷◌, ◌++◌, append_assoc, append-nil}
use Prim.Native.Nat.{ℕ, ◌+◌, ◌≤◌, ◌<◌}
use native.Mathlib.Omega.{arith}
use native.Mathlib.Decide.{dec_lt}
use mathlib.Core.Logic.{by_cases}
use lib.ListN.{length, length-append}
use Rattle.reading.specs.Reading.{Rules, Cursor, Item, Obeys, over_all, Stretch, Leading, Sound}
use Rattle.reading.specs.Paging.{records_by, Page}
use Rattle.reading.proofs.ItemLaws.{one, later, within}
use Rattle.reading.proofs.ReadingLaws.{stretch-split, stretch-leads, unique}

-- of two beginnings of one list the shorter begins the longer
begins : {I : Type 0} (xs ys us vs : List I) → xs ++ us ≡ ys ++ vs → length xs ≤ length ys → (zs : List I) × (ys ≡ xs ++ zs)
begins [] ys us vs e h = (ys, refl)
begins (x ∷ xs) [] us vs e h = absurd (omega arith)
begins {I} (x ∷ xs) (y ∷ ys) us vs e h =
    let p : x ≡ y = cc in
    let q : xs ++ us ≡ ys ++ vs = cc in
    let (zs, r) = begins xs ys us vs q (omega arith) in
    (zs, ap₂ (λ (a : I) (l : List I). a ∷ l) (sym p) r)

module _ {F : Type 0} (record_of : Item F → List ℕ) where
  abbrev records : List (Item F) → List ℕ
  records = records_by record_of

  -- the records of two lists, one behind the other
  pub records-append : (xs ys : List (Item F)) → records (xs ++ ys) ≡ records xs ++ records ys
  records-append [] ys = refl
  records-append (x ∷ xs) ys = ap (λ (l : List ℕ). record_of x ++ l) (records-append xs ys) ∙ sym (append_assoc (record_of x) (records xs) (records ys))

  -- the records of one item more
  pub records-more : (xs : List (Item F)) (x : Item F) → records (xs ++ (x ∷ [])) ≡ records xs ++ record_of x
  records-more xs x = records-append xs (x ∷ []) ∙ ap (λ (l : List ℕ). records xs ++ l) (append-nil (record_of x))

  pub length-records : (xs : List (Item F)) (x : Item F) → length (records (xs ++ (x ∷ []))) ≡ length (records xs) + length (record_of x)
  length-records xs x = ap length (records-more xs x) ∙ length-append (records xs) (record_of x)

nothing_left : {I : Type 0} (zs : List I) → length zs ≡ 0 → zs ≡ []
nothing_left [] h = refl
nothing_left (z ∷ zs) h = absurd (omega arith)

module _ {W X F : Type 0} (R : Rules W X F) (record_of : Item F → List ℕ) (w : W) (S : Sound R w) (c : Cursor X) where
  -- two leading parts begin the same way
  leading_begins : (xs ys : List (Item F)) → Leading R w c xs → Leading R w c ys → length xs ≤ length ys → (zs : List (Item F)) × (ys ≡ xs ++ zs)
  leading_begins xs ys (us, a) (vs, b) h = begins xs ys us vs (unique R w S c (xs ++ us) (ys ++ vs) a b) h

  -- and are one where they are of one length
  leading_one : (xs ys : List (Item F)) → Leading R w c xs → Leading R w c ys → length xs ≡ length ys → xs ≡ ys
  leading_one xs ys a b h =
      let (zs, e) = leading_begins xs ys a b (omega arith) in
      let n : length zs ≡ 0 = omega (arith, ap length e, length-append xs zs) in
      sym (e ∙ ap (λ (l : List (Item F)). xs ++ l) (nothing_left zs n) ∙ append-nil xs)

  -- the page of a request is one
  pub page-one : (most room : ℕ) (xs ys : List (Item F)) → Page R record_of w c most room xs → Page R record_of w c most room ys → xs ≡ ys
  page-one most room xs ys a b =
      leading_one xs ys a.leads b.leads
      (omega (arith, a.longest ys b.leads b.counted b.fits, b.longest xs a.leads a.counted a.fits))

  -- what stands first behind a leading part obeys the rules there
  next-obeys : (xs : List (Item F)) (z : Item F) (zs : List (Item F)) → Leading R w c (xs ++ (z ∷ zs)) → Obeys R w (over_all R c xs) z
  next-obeys xs z zs (rest, r) = (stretch-split R w c xs (z ∷ zs) (stretch-split R w c (xs ++ (z ∷ zs)) rest r.0).0).1.0

  module _ (most room : ℕ) (inside : c.position ≤ R.end w) (xs : List (Item F)) (stretch : Stretch R w c xs) (counted : length xs ≤ most) (fits : length (records_by record_of xs) ≤ room) where
    -- longest, where no item that may follow keeps to count and room
    longest_if : ((z : Item F) → Obeys R w (over_all R c xs) z → length xs < most → length (records_by record_of xs) + length (record_of z) ≤ room → ⊥) → Page R record_of w c most room xs
    longest_if no_more =
        record {
          leads = stretch-leads R w S c xs inside stretch;
          counted = counted;
          fits = fits;
          longest = λ ys l m k. by_cases (dec_lt (length xs) (length ys)) (λ (h : length xs < length ys). absurd (longer ys l m k h)) (λ (h : ¬ (length xs < length ys)). omega arith);
        }
      where
        longer : (ys : List (Item F)) → Leading R w c ys → length ys ≤ most → length (records_by record_of ys) ≤ room → length xs < length ys → ⊥
        longer ys l m k h = let (zs, e) = leading_begins xs ys (stretch-leads R w S c xs inside stretch) l (omega arith) in go zs e
          where
            go : (zs : List (Item F)) → ys ≡ xs ++ zs → ⊥
            go [] e = omega (arith, ap length (e ∙ append-nil xs))
            go (z ∷ zs) e =
                let o = next-obeys xs z zs (rw e at l) in
                let p : ys ≡ (xs ++ (z ∷ [])) ++ zs = e ∙ sym (append_assoc xs (z ∷ []) zs) in
                let q : length (records_by record_of ys) ≡ length (records_by record_of (xs ++ (z ∷ []))) + length (records_by record_of zs) = ap (λ (l : List (Item F)). length (records_by record_of l)) p ∙ ap length (records-append record_of (xs ++ (z ∷ [])) zs) ∙ length-append (records_by record_of (xs ++ (z ∷ []))) (records_by record_of zs) in
                no_more z o (omega arith) (omega (arith, length-records record_of xs z))

    -- at the count
    pub page_full : most ≤ length xs → Page R record_of w c most room xs
    page_full h = longest_if (λ z o a b. omega arith)

    -- at n
    pub page-end : R.end w ≤ (over_all R c xs).position → Page R record_of w c most room xs
    page-end h = longest_if (λ z o a b. omega (arith, later R w S (over_all R c xs) z o, within R w S (over_all R c xs) z o))

    -- where the next item does not fit
    pub page_tight : (z : Item F) → Obeys R w (over_all R c xs) z → room < length (records_by record_of xs) + length (record_of z) → Page R record_of w c most room xs
    page_tight z o h = longest_if (λ y p a b. let e : y ≡ z = one R w S (over_all R c xs) y z p o in omega (arith, ap (λ (x : Item F). length (record_of x)) e))
