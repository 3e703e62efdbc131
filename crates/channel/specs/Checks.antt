-- What each CRC covers (document 01, "CRC" and "Mode of kind 6"; document 02, Ask 1; TS 48.061, 5.2.4.1.1 and 5.2.4.2.1 to 5.2.4.2.4).
-- A check is the list of the places that a CRC covers, in listed order, and then the CRC's own three. Assumes nothing.
use Rattle.std.specs.Prelude.{cond, List, [], ◌∷◌, ◌++◌, map, ℕ, ◌+◌, ltb, get_or}
use Rattle.channel.specs.declared.Pattern.TheVariants.{Low, P670, P740}
use Rattle.channel.specs.declared.Kind.{Kind}
use Rattle.channel.specs.declared.Kind.TheVariants.{Speech, Data, Om, Configuration, NoSpeech, Lower, Amr670, Amr740}
use Rattle.channel.specs.Places.{upto, c_places, crc_places, d_place}

-- the places of D bits by their numbers, from 1
abbrev pub d : Kind → List ℕ → List ℕ
d k is = map (d_place k) is

-- the D number of s number i (5.2.4.2.2). 4,75: s1..s48 are D4..D51, s49.. D60.., s62.. D76.., s83.. D100..
abbrev pub s475 : ℕ → ℕ
s475 i = cond (ltb i 49) (i + 3) (cond (ltb i 62) (i + 11) (cond (ltb i 83) (i + 14) (i + 17)))

-- 5,15: s1..s46 are D6..D51, s47.. D60.., s66.. D82.., s85.. D104..
abbrev pub s515 : ℕ → ℕ
s515 i = cond (ltb i 47) (i + 5) (cond (ltb i 66) (i + 13) (cond (ltb i 85) (i + 16) (i + 19)))

-- 5,90: s1..s51 are D1..D51
abbrev pub s590 : ℕ → ℕ
s590 i = i

-- the places of s numbers in a kind 6
abbrev pub s : (ℕ → ℕ) → List ℕ → List ℕ
s mode is = d Lower (map mode is)

-- 4,75: CRC1 (D52), CRC2 (D73), CRC3 (D97), CRC4 (D113)
abbrev pub checks475 : List (List ℕ)
checks475 =
    (c_places Low ++ s s475 (upto 1 16 ++ (18 ∷ 19 ∷ []) ++ upto 21 29 ++ upto 45 48) ++ d Lower (upto 52 54))
    ∷ (d Lower (upto 55 59) ++ s s475 (49 ∷ 50 ∷ []) ++ d Lower (upto 73 75))
    ∷ (s s475 (62 ∷ 63 ∷ upto 79 82) ++ d Lower (upto 97 99))
    ∷ (s s475 (83 ∷ 84 ∷ []) ++ d Lower (upto 113 115))
    ∷ []

-- 5,15: CRC1 (D52), CRC2 (D79), CRC3 (D101), CRC4 (D123)
abbrev pub checks515 : List (List ℕ)
checks515 =
    (c_places Low ++ s s515 (upto 1 16 ++ upto 19 29 ++ upto 42 46) ++ d Lower (upto 52 54))
    ∷ (d Lower (upto 55 59) ++ s s515 (47 ∷ 48 ∷ upto 61 65) ++ d Lower (upto 79 81))
    ∷ (s s515 (66 ∷ 67 ∷ upto 80 84) ++ d Lower (upto 101 103))
    ∷ (s s515 (85 ∷ 86 ∷ upto 99 103) ++ d Lower (upto 123 125))
    ∷ []

-- 5,90: CRC1 (D52)
abbrev pub checks590 : List (List ℕ)
checks590 = (c_places Low ++ s s590 (upto 1 17 ++ upto 27 34 ++ upto 48 51) ++ d Lower (upto 52 54)) ∷ []

-- the checks of a kind 6 in a mode: 1 for 4,75, 2 for 5,15, 3 for 5,90; without a mode none
abbrev pub checks_lower : ℕ → List (List ℕ)
checks_lower mode = get_or ([] ∷ checks475 ∷ checks515 ∷ checks590 ∷ []) mode []

-- kind 5, of a class that carries it: CRC1 (D52) over C1..C5, D1..D51 (5.2.4.2.1; document 02, Ask 1)
abbrev pub checks_silence : List (List ℕ)
checks_silence = (c_places Low ++ d NoSpeech (upto 1 51 ++ upto 52 54)) ∷ []

-- the checks of a kind whatever the profile, CRC1 first; the mode is that of a kind 6
unfoldable pub checks : ℕ → Kind → List (List ℕ)
checks mode Speech = (d Speech (upto 1 44) ++ crc_places) ∷ []
checks mode Data = []
checks mode Om = []
checks mode Configuration = []
checks mode NoSpeech = []
checks mode Lower = checks_lower mode
checks mode Amr670 = (c_places P670 ++ d Amr670 (upto 1 17 ++ (20 ∷ 24 ∷ []) ++ upto 27 34 ++ upto 49 53 ++ upto 56 58)) ∷ []
checks mode Amr740 = (c_places P740 ++ d Amr740 (upto 1 20 ++ upto 22 24 ++ upto 27 32 ++ (52 ∷ 53 ∷ []) ++ upto 55 57 ++ upto 59 61)) ∷ []
