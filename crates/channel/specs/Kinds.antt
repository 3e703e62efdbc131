-- The eight kinds of frame (document 01, "Frames", the table of kinds).
-- Assumes nothing.
use Rattle.std.specs.Prelude.{List, [], ◌∷◌, ℕ}
use Rattle.channel.specs.declared.Direction.{Direction}
use Rattle.channel.specs.declared.Direction.TheVariants.{Uplink, Downlink}
use Rattle.channel.specs.declared.Pattern.{Pattern}
use Rattle.channel.specs.declared.Pattern.TheVariants.{Hr, Low, P670, P740}
use Rattle.channel.specs.declared.Kind.{Kind}
use Rattle.channel.specs.declared.Kind.TheVariants.{Speech, Data, Om, Configuration, NoSpeech, Lower, Amr670, Amr740}

-- the kinds in the table's order
abbrev pub kinds : List Kind
kinds = Speech ∷ Data ∷ Om ∷ Configuration ∷ NoSpeech ∷ Lower ∷ Amr670 ∷ Amr740 ∷ []

-- column Kind: this paper's number of a kind
abbrev pub kind_no : Kind → ℕ
kind_no Speech = 1
kind_no Data = 2
kind_no Om = 3
kind_no Configuration = 4
kind_no NoSpeech = 5
kind_no Lower = 6
kind_no Amr670 = 7
kind_no Amr740 = 8

-- column Pattern
abbrev pub pattern_of : Kind → Pattern
pattern_of Speech = Hr
pattern_of Data = Hr
pattern_of Om = Hr
pattern_of Configuration = Hr
pattern_of NoSpeech = Low
pattern_of Lower = Low
pattern_of Amr670 = P670
pattern_of Amr740 = P740

-- column D: how many D bits
abbrev pub d_count : Kind → ℕ
d_count Speech = 112
d_count Data = 126
d_count Om = 120
d_count Configuration = 125
d_count NoSpeech = 125
d_count Lower = 126
d_count Amr670 = 137
d_count Amr740 = 151

-- column Body: how many bits; the body is the frame's first bits
abbrev pub body_of : Kind → ℕ
body_of Speech = 158
body_of Data = 159
body_of Om = 159
body_of Configuration = 158
body_of NoSpeech = 158
body_of Lower = 159
body_of Amr670 = 160
body_of Amr740 = 160

-- column Least tail, up and down
abbrev pub least_tail : Direction → Kind → ℕ
least_tail Uplink Speech = 1
least_tail Downlink Speech = 0
least_tail Uplink Data = 1
least_tail Downlink Data = 1
least_tail Uplink Om = 1
least_tail Downlink Om = 1
least_tail Uplink Configuration = 2
least_tail Downlink Configuration = 2
least_tail Uplink NoSpeech = 1
least_tail Downlink NoSpeech = 0
least_tail Uplink Lower = 0
least_tail Downlink Lower = 0
least_tail Uplink Amr670 = 0
least_tail Downlink Amr670 = 0
least_tail Uplink Amr740 = 0
least_tail Downlink Amr740 = 0

-- column Usual tail
abbrev pub usual_tail : Kind → ℕ
usual_tail Speech = 2
usual_tail Data = 1
usual_tail Om = 1
usual_tail Configuration = 2
usual_tail NoSpeech = 2
usual_tail Lower = 1
usual_tail Amr670 = 0
usual_tail Amr740 = 0
