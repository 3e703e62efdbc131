-- Words for the MIR of a call that is lent a list of sessions.
-- Assumes nothing: these are definitions.
use mathlib.Core.List.{List, [], ◌∷◌}
use Prim.Native.Nat.{ℕ}
use mir.Syntax.{Callee, Ty, Lifetime, Mutability, erased, w8, w64, ty_int, ty_ref, ty_struct, tcons, tnil, Local, local, value_local, field, variant, deref, Opd, copy, int, addr_of, aggregate, rv_opd, Body, seq, assign, call, switch, arm, no_default, place}
use denote.Memory.{lone, pointee}
use denote.RattleType.{RattleType}
use Rattle.std.specs.contracts.option.Option.{the_row as option_of}
use Rattle.dplaces.specs.contracts.PlaceTable.{the_row as PlaceTable}
use Rattle.sessions.specs.contracts.Session.{the_row as Session}

abbrev pub word : Ty
word = ty_int w64

abbrev pub octet : Ty
octet = ty_int w8

-- a slice is a reference to its first element, and how many there are
abbrev pub slice : Lifetime → Mutability → Ty → Ty
slice ℓ m T = ty_struct (38 ∷ 91 ∷ 93 ∷ []) (tcons (ty_ref ℓ m T) (tcons word tnil))

abbrev pub value : Ty → Local
value T = local T value_local

-- a value of a type that is declared
abbrev pub of : RattleType → Local
of R = value (lone R.mir)

-- local k, and field i of it
abbrev pub at : ℕ → Opd
at k = copy (place k [])

abbrev pub part : ℕ → ℕ → Opd
part k i = copy (place k (field i ∷ []))

abbrev pub nought : Opd
nought = int w64 0

-- local k becomes what an operand is; what several are, one for each field, or the number of a variant and then its fields; what a function answers
abbrev pub reads : ℕ → Opd → Body
reads k x = assign (place k []) (rv_opd x)

abbrev pub makes : ℕ → List Opd → Body
makes k xs = assign (place k []) (aggregate xs)

abbrev pub calls : ℕ → Callee → List Opd → Body
calls k f xs = call f xs (place k [])

-- what variant v of local k holds; what comes first is the number of the variant that stands there
abbrev holds : ℕ → ℕ → Opd
holds k v = copy (place k (variant v ∷ field 1 ∷ []))

-- by the result in local k: what is done where it is Ok, with what that holds in local i, and where it is Err, with the refusal in local j
abbrev pub matches : ℕ → ℕ → Body → ℕ → Body → Body
matches k i taken j refused =
    switch (copy (place k (variant 0 ∷ field 0 ∷ [])))
    (arm (0 ∷ []) (seq (reads i (holds k 0)) taken)
    (arm (1 ∷ []) (seq (reads j (holds k 1)) refused)
    no_default))

-- the slice in local s, of elements T, lent on in local j, by way of the reference in local i
abbrev pub lends : ℕ → Ty → ℕ → ℕ → Body → Body
lends s T i j rest =
    seq (assign (place i []) (addr_of (place s (field 0 ∷ deref T ∷ []))))
    (seq (makes j (at i ∷ part s 1 ∷ [])) rest)

-- the list lent on
abbrev pub lists : ℕ → ℕ → Body → Body
lists i j rest = lends 1 (lone Session.mir) i j rest

-- the locals that it needs; what a reference points to is written by its name
abbrev named_session : Ty
named_session = pointee Session.written

abbrev pub list : Lifetime → Mutability → Local
list ℓ m = value (slice ℓ m named_session)

abbrev pub first : Mutability → Local
first m = value (ty_ref erased m named_session)

-- the table of D places; it or none
abbrev pub table : Local
table = of PlaceTable

abbrev pub table_lent : Local
table_lent = of (option_of PlaceTable)
