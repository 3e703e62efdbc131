-- The MIR of the calls on sessions: what each does step by step. The code of `open`, `close` and `page` is compared with it, each where it is proved (`steps` in
-- the `Answers.antt` of each).
-- Assumes nothing: these are definitions.
use mathlib.Core.List.{[], ◌∷◌}
use mir.Syntax.{named, erased, imm, mut, ty_ref, ty_unit, Body, seq, return, Fn}
use Rattle.std.specs.contracts.result.Result.{the_row as result_of}
use Rattle.call.specs.contracts.Refusal.{the_row as Refusal}
use Rattle.call.specs.contracts.CursorNumbers.{the_row as CursorNumbers}
use Rattle.call.specs.contracts.Answer.{the_row as Answer}
use Rattle.sessions.specs.contracts.Session.{the_row as Session}
use Rattle.sessions.specs.contracts.Found.{the_row as Found}
use Rattle.serving.specs.contracts.Opened.{the_row as Opened}
use Rattle.serving.specs.contracts.Opening.{the_row as Opening}
use Rattle.serving.specs.contracts.Brought.{the_row as Brought}
use Rattle.serving.specs.contracts.Paged.{the_row as Paged}
use Rattle.call.proofs.Refusal.number.Symbol.{name as #number}
use Rattle.call.proofs.Refusal.answer.Symbol.{name as #answer}
use Rattle.sessions.proofs.find.Symbol.{name as #find}
use Rattle.sessions.proofs.at.Symbol.{name as #at}
use Rattle.sessions.proofs.store.Symbol.{name as #store}
use Rattle.serving.proofs.zeros.Symbol.{name as #zeros}
use Rattle.serving.proofs.open_in.Symbol.{name as #open_in}
use Rattle.serving.proofs.close_at.Symbol.{name as #close_at}
use Rattle.serving.proofs.page_at.Symbol.{name as #page_at}
use Rattle.serving.proofs.MirWords.{word, octet, slice, value, of, at, part, nought, reads, makes, calls, matches, lends, lists, list, first, table_lent}

-- what comes of opening is stored, and its place answered
abbrev opening_stored : Body
opening_stored =
    lists 14 15
    (seq (reads 16 (part 6 1))
    (seq (calls 13 #store (at 15 ∷ part 6 0 ∷ at 16 ∷ []))
    (seq (reads 17 (part 6 0)) (makes 12 (nought ∷ at 17 ∷ [])))))

-- where it is refused, the number is answered, and nothing stored
abbrev opening_refused : Body
opening_refused = seq (calls 18 #number (at 7 ∷ [])) (makes 12 (at 18 ∷ nought ∷ []))

-- opening: its answer; the list, key, capture number, direction; what is found, what comes of it or what refuses it; last what is lent, and the session to
-- store, copied out
abbrev pub opens : Fn
opens = record {
  lifetimes = 1;
  outlives = [];
  ty_params = [];
  givens = 0;
  params = 4;
  locals =
      of Opened ∷ list (named 0) mut ∷ value word ∷ value word ∷ value word
      ∷ of Found ∷ of Opening ∷ of Refusal ∷ first imm ∷ list erased imm ∷ of (result_of Opening Refusal) ∷ value word ∷ of Opened
      ∷ value ty_unit ∷ first mut ∷ list erased mut ∷ of Session ∷ value word ∷ value word ∷ [];
  body =
      lists 8 9
      (seq (calls 5 #find (at 9 ∷ at 2 ∷ []))
      (seq (reads 11 (part 1 1))
      (seq (calls 10 #open_in (at 5 ∷ at 11 ∷ at 2 ∷ at 3 ∷ at 4 ∷ []))
      (seq (matches 10 6 opening_stored 7 opening_refused)
      (seq (reads 0 (at 12)) return)))));
}

-- what is left behind is stored
abbrev closing_stored : Body
closing_stored = lists 13 14 (seq (calls 12 #store (at 14 ∷ at 2 ∷ at 5 ∷ [])) (reads 11 nought))

-- closing: its number; the list, place, key; what stands there, what is left there or what refuses it; last what is lent
abbrev pub closes : Fn
closes = record {
  lifetimes = 1;
  outlives = [];
  ty_params = [];
  givens = 0;
  params = 3;
  locals =
      value word ∷ list (named 0) mut ∷ value word ∷ value word
      ∷ of Session ∷ of Session ∷ of Refusal ∷ first imm ∷ list erased imm ∷ of (result_of Session Refusal) ∷ value word ∷ value word
      ∷ value ty_unit ∷ first mut ∷ list erased mut ∷ [];
  body =
      lists 7 8
      (seq (calls 4 #at (at 8 ∷ at 2 ∷ []))
      (seq (reads 10 (part 1 1))
      (seq (calls 9 #close_at (at 4 ∷ at 10 ∷ at 3 ∷ []))
      (seq (matches 9 5 closing_stored 6 (calls 11 #number (at 6 ∷ [])))
      (seq (reads 0 (at 11)) return)))));
}

-- the session with the cursor that is answered is stored
abbrev page_stored : Body
page_stored =
    lists 20 21
    (seq (reads 22 (part 9 0))
    (seq (calls 19 #store (at 21 ∷ at 2 ∷ at 22 ∷ []))
    (reads 18 (part 9 1))))

-- where the page is refused, a cursor of zeros is answered, and nothing stored
abbrev page_refused : Body
page_refused = seq (calls 23 #zeros []) (calls 18 #answer (at 10 ∷ nought ∷ at 23 ∷ []))

-- a page: its answer; the list, place, key, the capture's bytes, what is brought, the table or none, the buffer; what stands there, what comes of it or what
-- refuses it; last what is lent, and the session to store, copied out
abbrev pub pages : Fn
pages = record {
  lifetimes = 3;
  outlives = [];
  ty_params = [];
  givens = 0;
  params = 7;
  locals =
      of Answer ∷ list (named 0) mut ∷ value word ∷ value word ∷ value (slice (named 1) imm octet) ∷ of Brought ∷ table_lent
      ∷ value (slice (named 2) mut octet) ∷ of Session ∷ of Paged ∷ of Refusal ∷ first imm ∷ list erased imm ∷ of (result_of Paged Refusal)
      ∷ value word ∷ table_lent ∷ value (ty_ref erased mut octet) ∷ value (slice erased mut octet) ∷ of Answer
      ∷ value ty_unit ∷ first mut ∷ list erased mut ∷ of Session ∷ of CursorNumbers ∷ [];
  body =
      lists 11 12
      (seq (calls 8 #at (at 12 ∷ at 2 ∷ []))
      (seq (reads 14 (part 1 1))
      (seq (reads 15 (at 6))
      (lends 7 octet 16 17
      (seq (calls 13 #page_at (at 8 ∷ at 14 ∷ at 3 ∷ at 4 ∷ at 5 ∷ at 15 ∷ at 17 ∷ []))
      (seq (matches 13 9 page_stored 10 page_refused)
      (seq (reads 0 (at 18)) return)))))));
}
