-- What the kind of a frame is, by its fixed bits and coding (document 01, "Frames" and "Coding").
-- Assumes nothing.
use Rattle.std.specs.Prelude.{◌≡◌, true, false, List, ℕ, ◌<◌, Option, Some, None}
use Rattle.channel.specs.declared.Direction.{Direction}
use Rattle.channel.specs.declared.Terms.{Terms}
use Rattle.channel.specs.declared.Pattern.{Pattern}
use Rattle.channel.specs.declared.Kind.{Kind}
use Rattle.channel.specs.Kinds.{pattern_of}
use Rattle.channel.specs.Places.{elem}
use Rattle.channel.specs.Coding.{Word, fixed, xc_coded, coded, is_body}

-- the pattern found is one whose fixed bits hold; where none is found they hold of none
abbrev pub SyncOf : Word → Option Pattern → Type 0
SyncOf g (Some t) = fixed g t ≡ true
SyncOf g None = (t : Pattern) → fixed g t ≡ false

-- the number found is XC1..XC5 as a number, where XC1..XC6 have an odd number of ones: so it is a coding of these where it is one of a list; where none
-- is found they are no coding
abbrev pub XcOf : Word → Option ℕ → Type 0
XcOf g (Some v) = (v < 32) × ((vs : List ℕ) → elem v vs ≡ xc_coded g vs)
XcOf g None = (vs : List ℕ) → xc_coded g vs ≡ false

-- the kind found is one of a pattern whose coding holds; where none is found it holds of none of that pattern
abbrev pub Coded : Direction → Word → Pattern → Option Kind → Type 0
Coded d g t (Some k) = (pattern_of k ≡ t) × (coded d g k ≡ true)
Coded d g t None = (k : Kind) → pattern_of k ≡ t → coded d g k ≡ false

-- the kind found is one whose fixed bits and coding hold; where none is found they hold of none
abbrev pub KindOf : Terms → Word → Option Kind → Type 0
KindOf t g (Some k) = is_body t.direction g k ≡ true
KindOf t g None = (k : Kind) → is_body t.direction g k ≡ false
