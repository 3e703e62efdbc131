-- The drawings of the eight kinds as one text, laid out as TS 48.061 draws them in 5.2.1 to 5.2.3: a line for each octet, a column for each bit.
-- Assumes nothing.
use Rattle.std.specs.Prelude.{List, [], ◌∷◌, ◌++◌, ℕ, zero, suc}
use Prim.Native.Char.{code}
use Prim.Native.String.{String, [] as none, ◌∷◌ as ◌then◌}
use Rattle.channel.specs.declared.Direction.TheVariants.{Uplink, Downlink}
use Rattle.channel.specs.declared.Kind.{Kind}
use Rattle.channel.specs.declared.Kind.TheVariants.{Speech, Data, Om, Configuration, NoSpeech, Lower, Amr670, Amr740}
use Rattle.channel.specs.Kinds.{body_of, least_tail}
use Rattle.text.specs.Text.{decimal_of}
use Rattle.names.specs.Names.{octet_of}

-- the bytes of a quoted text
abbrev pub ascii : String → List ℕ
ascii none = []
ascii (c then s) = code c ∷ ascii s

-- the lines of the first octets of a kind
abbrev pub octets_of : Kind → ℕ → List ℕ
octets_of k zero = []
octets_of k (suc n) = octets_of k n ++ octet_of k n

-- the heading of a kind behind its title, and the line of the bits' numbers
abbrev pub heading_of : Kind → List ℕ → List ℕ
heading_of k title =
    title ++ decimal_of (body_of k) ++ ascii ", least tail " ++ decimal_of (least_tail Uplink k) ++ ascii " up, " ++ decimal_of (least_tail Downlink k)
    ++ ascii " down\n      1    2    3    4    5    6    7    8\n"

-- the drawing of a kind
abbrev pub drawing_of : Kind → List ℕ → List ℕ
drawing_of k title = heading_of k title ++ octets_of k 20

-- the eight drawings, with an empty line between them
unfoldable pub all_drawings : List ℕ
all_drawings =
    drawing_of Speech (ascii "Kind 1, HR speech (5.2.1.1): body ")
    ++ drawing_of Data (ascii "\nKind 2, data (5.2.2): body ")
    ++ drawing_of Om (ascii "\nKind 3, O&M (5.2.3): body ")
    ++ drawing_of Configuration (ascii "\nKind 4, configuration (5.2.1.3): body ")
    ++ drawing_of NoSpeech (ascii "\nKind 5, No_Speech (5.2.1.2.1): body ")
    ++ drawing_of Lower (ascii "\nKind 6, lower speech (5.2.1.2.1): body ")
    ++ drawing_of Amr670 (ascii "\nKind 7, 6,70 (5.2.1.2.2): body ")
    ++ drawing_of Amr740 (ascii "\nKind 8, 7,40 (5.2.1.2.3): body ")
