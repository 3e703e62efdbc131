-- How long the parts of a drawing are, and the lines of its octets put one behind the other.
-- Assumes nothing.
use mathlib.Core.Path.{◌≡◌, refl}
use mathlib.Core.List.{List}
use Prim.Native.Nat.{ℕ, zero, suc, ◌+◌, ◌*◌, ◌≤◌}
use native.Mathlib.Numerals.{add-one}
use native.Mathlib.Omega.{arith}
use lib.ListN.{length, length-append}
use Rattle.channel.specs.declared.Direction.TheVariants.{Uplink, Downlink}
use Rattle.channel.specs.declared.Kind.{Kind}
use Rattle.channel.specs.Kinds.{body_of, least_tail}
use Rattle.text.specs.Text.{Put}
use Rattle.text.proofs.TextLaws.{digits_most, put-put}
use Rattle.names.specs.Names.{octet_of}
use Rattle.names.proofs.NameLaws.{octet-long}
use Rattle.drawing.specs.Drawing.{octets_of, heading_of}

-- the lines of the first octets
pub octets-long : (k : Kind) (n : ℕ) → length (octets_of k n) ≡ 43 * n
octets-long k zero = refl
octets-long k (suc n) = omega (arith, length-append (octets_of k n) (octet_of k n), octets-long k n, octet-long k n)

-- a heading
pub heading_short : (k : Kind) (title : List ℕ) → length (heading_of k title) ≤ length title + 127
heading_short k title = simp length-append (omega (arith, digits_most 20 (body_of k), digits_most 20 (least_tail Uplink k), digits_most 20 (least_tail Downlink k)))

-- one octet more
pub octets-next : {before out after : List ℕ} {at m end : ℕ} (k : Kind) (n : ℕ) → Put before at (octets_of k n) out m → Put out m (octet_of k n) after end
    → Put before at (octets_of k (n + 1)) after end
octets-next k n p q = rw add-one (put-put p q)
