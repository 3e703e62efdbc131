-- The covered lists, and their masks, kept for the length of a call.
-- Assumes nothing.
use Rattle.std.specs.Prelude.{◌≡◌, List, [], ◌++◌, ℕ, None, Option, IfSome, IsSome, get_or}
use Rattle.channel.specs.declared.Kind.TheVariants.{Speech, Amr670, Amr740}
use Rattle.channel.specs.Checks.{checks475, checks515, checks590, checks_silence, checks}
use Rattle.crc.specs.declared.Taps.{Taps}
use Rattle.crc.specs.Taps.{MasksOf, MasksOf-prop}
use Rattle.masks.specs.declared.CoveredList.{CoveredList}
use Rattle.masks.specs.declared.CoveredList.TheVariants as V
use Rattle.std.specs.Coded.{Π_prop, Unit-prop}
use Rattle.std.specs.Option.{MatchOption-prop}

-- the covered lists: kind 1; kind 6 by mode, CRC1 first; kinds 7 and 8; kind 5
unfoldable pub covered : List (List ℕ)
covered = checks 0 Speech ++ checks475 ++ checks515 ++ checks590 ++ checks 0 Amr670 ++ checks 0 Amr740 ++ checks_silence

-- the number of a list among them
abbrev pub number : CoveredList → ℕ
number V.Speech = 0
number V.Lower475Crc1 = 1
number V.Lower475Crc2 = 2
number V.Lower475Crc3 = 3
number V.Lower475Crc4 = 4
number V.Lower515Crc1 = 5
number V.Lower515Crc2 = 6
number V.Lower515Crc3 = 7
number V.Lower515Crc4 = 8
number V.Lower590 = 9
number V.Amr670 = 10
number V.Amr740 = 11
number V.NoSpeech = 12

-- its places
abbrev pub places_of : CoveredList → List ℕ
places_of list = get_or covered (number list) []

-- the masks that are there are those of their lists
abbrev pub Kept : List (Option Taps) → Type 0
Kept lists = (i : ℕ) → IfSome (get_or lists i None) (MasksOf (get_or covered i []))

-- of which there is one proof at most
pub Kept-prop : (lists : List (Option Taps)) → IsProp (Kept lists)
Kept-prop lists = Π_prop (λ i. MatchOption-prop (get_or lists i None) _ _ Unit-prop (MasksOf-prop (get_or covered i [])))

-- masks to which those of list i are added, those that were there still being there
pub record More (i : ℕ) (before after : List (Option Taps)) : Type 0 where
  pub here : IsSome (get_or after i None)
  pub still : (j : ℕ) → IsSome (get_or before j None) → get_or after j None ≡ get_or before j None
