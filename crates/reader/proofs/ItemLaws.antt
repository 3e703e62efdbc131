-- The item at a cursor, by the frame seen there or by the gap searched.
-- Assumes nothing.
use mathlib.Core.Path.{◌≡◌, refl, sym, ◌∙◌, ap, subst}
use mathlib.Core.Logic.{◌⊎◌, by_cases}
use mathlib.Core.List.{List}
use Prim.Native.Nat.{ℕ, ◌+◌, ◌-◌, ◌<◌}
use native.Mathlib.Omega.{arith}
use native.Mathlib.Decide.{ℕ_discrete}
use Rattle.reading.specs.Reading.{Starts, Gap}
use Rattle.reading.proofs.ItemLaws.{one}
use Rattle.channel.specs.declared.Kind.{Kind}
use Rattle.channel.specs.Frames.{Capture, Frame, rules}
use Rattle.channel.proofs.FrameLaws.{sound}
use Rattle.std.specs.Prelude.{Some, None}
use Rattle.item.specs.declared.Frame as code
use Rattle.item.specs.declared.Item.{Item}
use Rattle.item.specs.declared.Item.TheVariants as of
use Rattle.item.specs.declared.Cursor.{Cursor}
use Rattle.item.specs.Item.{frame_of, item_of, cursor_of}
use Rattle.reader.specs.Seen.{octets_at, Seen, GapEnd, Beside, ItemAt}

module _ (w : Capture) (c : Cursor) where
  -- a frame that is due is the item
  pub item-frame : (f : code.Frame) → Seen w c.context c.position (Some f) → ItemAt w (cursor_of c) (of.Frame f)
  item-frame f seen = record { obeys = seen.0; beside = seen.1 ∙ ap (octets_at w) (sym seen.0.stands.at) }

  -- else it is the gap to where the search ends
  pub item-gap : (r : ℕ) → Seen w c.context c.position None → c.position < w.n → GapEnd w (c.position + 1) r → ItemAt w (cursor_of c) (of.Gap c.position (r - c.position))
  item-gap r none-due l end =
      let back : c.position + (r - c.position) ≡ r = omega (arith, end.from) in
      let gap : Gap rules w (cursor_of c) c.position (r - c.position) =
      record {
        from = refl;
        filled = omega (arith, end.from);
        within = omega (arith, end.within, end.from);
        stops = subst (λ (q : ℕ). (q ≡ w.n) ⊎ ((f : Frame) × Starts rules w q f)) (sym back) end.stops;
        none_starts =
            λ q a b f h.
            by_cases (ℕ_discrete c.position q)
            (λ (d : c.position ≡ q).
            let g = (sound w).starts_due c.context c.position f (subst (λ (q : ℕ). Starts rules w q f) (sym d) h) in
            none-due g.0 g.1)
            (λ (d : ¬ (c.position ≡ q)). end.none_starts q (omega arith) (omega arith) f h);
        none_follows = none-due;
      } in
      record { obeys = gap; beside = tt }

-- frames that are one for the rules, and whose octets are those from their start on, are one in every number
same_frame : (w : Capture) (f g : code.Frame) → frame_of f ≡ frame_of g → f.octets ≡ octets_at w f.start → g.octets ≡ octets_at w g.start → f ≡ g
same_frame w f g e a b =
    let start : f.start ≡ g.start = ap (λ (h : Frame). h.start) e in
    made f.kind g.kind f.octets g.octets f.start g.start f.tail g.tail f.verdict g.verdict (ap (λ (h : Frame). h.kind) e) (a ∙ ap (octets_at w) start ∙ sym b) start
    (ap (λ (h : Frame). h.tail) e) (ap (λ (h : Frame). h.verdict) e)
  where
    made : (j k : Kind) (o p : List ℕ) (s t l m v u : ℕ) → j ≡ k → o ≡ p → s ≡ t → l ≡ m → v ≡ u
        → ◌≡◌ {A = code.Frame} (record { kind = j; octets = o; start = s; tail = l; verdict = v }) (record { kind = k; octets = p; start = t; tail = m; verdict = u })
    made j k o p s t l m v u d q r z y = rw (d, q, r, z, y)

-- items that are one for the rules are one in every number
same_item : (w : Capture) (i j : Item) → item_of i ≡ item_of j → Beside w i → Beside w j → i ≡ j
same_item w (of.Frame f) (of.Frame g) e a b = let same : frame_of f ≡ frame_of g = cc in ap of.Frame (same_frame w f g same a b)
same_item w (of.Gap s l) (of.Gap t m) e a b = cc
same_item w (of.Frame f) (of.Gap s l) e a b = cc
same_item w (of.Gap s l) (of.Frame f) e a b = cc

-- no second item fits, in any of its numbers
pub item-one : (w : Capture) (c : Cursor) (i j : Item) → ItemAt w (cursor_of c) i → ItemAt w (cursor_of c) j → i ≡ j
item-one w c i j a b = same_item w i j (one rules w (sound w) (cursor_of c) (item_of i) (item_of j) a.obeys b.obeys) a.beside b.beside
