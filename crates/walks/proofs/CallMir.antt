-- The MIR of the calls on sessions as they are exported: each lends the list on to the call of `serving` that does the work, whose steps stand in `ListMir`
-- there. Both libraries' functions are compared with it, each where it is proved (`steps` in the `Answers.antt` of `bellrope_open`, `bellrope_close` and
-- `bellrope_session_page`).
-- Assumes nothing: these are definitions.
use mathlib.Core.List.{List, [], ◌∷◌, ◌++◌}
use Prim.Native.Nat.{ℕ, ◌+◌}
use mir.Syntax.{Callee, named, erased, imm, mut, w8, ty_ref, Local, int, Body, seq, return, Fn}
use Rattle.call.specs.contracts.Answer.{the_row as Answer}
use Rattle.serving.specs.contracts.Opened.{the_row as Opened}
use Rattle.serving.specs.contracts.Brought.{the_row as Brought}
use Rattle.serving.proofs.open.Symbol.{name as #open}
use Rattle.serving.proofs.close.Symbol.{name as #close}
use Rattle.serving.proofs.page.Symbol.{name as #page}
use Rattle.serving.proofs.MirWords.{word, octet, slice, value, of, at, reads, makes, calls, lends, lists, list, first, table, table_lent}

-- opening: its answer; the list, key, capture number, direction; last the list lent on
abbrev pub opens : Fn
opens = record {
  lifetimes = 1;
  outlives = [];
  ty_params = [];
  givens = 0;
  params = 4;
  locals =
      of Opened ∷ list (named 0) mut ∷ value word ∷ value word ∷ value word
      ∷ first mut ∷ list erased mut ∷ [];
  body =
      lists 5 6
      (seq (calls 0 #open (at 6 ∷ at 2 ∷ at 3 ∷ at 4 ∷ [])) return);
}

-- closing: its number; the list, place, key; last the list lent on
abbrev pub closes : Fn
closes = record {
  lifetimes = 1;
  outlives = [];
  ty_params = [];
  givens = 0;
  params = 3;
  locals =
      value word ∷ list (named 0) mut ∷ value word ∷ value word
      ∷ first mut ∷ list erased mut ∷ [];
  body =
      lists 4 5
      (seq (calls 0 #close (at 5 ∷ at 2 ∷ at 3 ∷ [])) return);
}

-- a page: its answer; the list, place, key, the capture's bytes, n, profile, most, the buffer; what is brought; last the list and the buffer lent on. What
-- lends the table of D places, or nothing, is called by the name given
abbrev pub pages : Callee → Fn
pages #session_page = record {
  lifetimes = 3;
  outlives = [];
  ty_params = [];
  givens = 0;
  params = 8;
  locals =
      of Answer ∷ list (named 0) mut ∷ value word ∷ value word ∷ value (slice (named 1) imm octet) ∷ value word ∷ value octet ∷ value word
      ∷ value (slice (named 2) mut octet) ∷ of Brought
      ∷ first mut ∷ list erased mut ∷ value (ty_ref erased mut octet) ∷ value (slice erased mut octet) ∷ [];
  body =
      seq (makes 9 (at 5 ∷ at 6 ∷ at 7 ∷ []))
      (lists 10 11
      (lends 8 octet 12 13
      (seq (calls 0 #session_page (at 11 ∷ at 2 ∷ at 3 ∷ at 4 ∷ at 9 ∷ at 13 ∷ [])) return)));
}

-- what lends the table, or nothing: its answer; the list, place, key, the capture's bytes, what is brought, the buffer; the locals of its own; last the list,
-- the table or none, and the buffer lent on
abbrev passes : List Local → Body → Fn
passes own steps = record {
  lifetimes = 3;
  outlives = [];
  ty_params = [];
  givens = 0;
  params = 6;
  locals =
      of Answer ∷ list (named 0) mut ∷ value word ∷ value word ∷ value (slice (named 1) imm octet) ∷ of Brought ∷ value (slice (named 2) mut octet)
      ∷ (own ++ (first mut ∷ list erased mut ∷ table_lent ∷ value (ty_ref erased mut octet) ∷ value (slice erased mut octet) ∷ []));
  body = steps;
}

-- these five from local k on, by what makes the third of them
abbrev lent_from : ℕ → (ℕ → Body) → Body
lent_from k tables =
    lists k (1 + k)
    (seq (tables (2 + k))
    (lends 6 octet (3 + k) (4 + k)
    (seq (calls 0 #page (at (1 + k) ∷ at 2 ∷ at 3 ∷ at 4 ∷ at 5 ∷ at (2 + k) ∷ at (4 + k) ∷ [])) return)))

-- the table is lent, by the function of the name given
abbrev pub with_table : Callee → Fn
with_table #table =
    passes (table_lent ∷ table ∷ [])
    (seq (calls 8 #table [])
    (seq (makes 7 (int w8 1 ∷ at 8 ∷ []))
    (lent_from 9 (λ k. reads k (at 7)))))

-- none is
abbrev pub with_none : Fn
with_none = passes [] (lent_from 7 (λ k. makes k (int w8 0 ∷ [])))
