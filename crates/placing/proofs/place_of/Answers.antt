-- `placing::place_of` meets its contract, kind by kind.
-- Assumes nothing.
use mathlib.Core.Path.{sym, ◌∙◌}
use native.Mathlib.Omega.{arith}
use Rattle.placing.proofs.PlacingLaws.{like_data, like_lower}
use Rattle.placing.proofs.place_of.Goals as goal

pub speech_place-requires : goal.speech_place-requires
speech_place-requires c = let p = c.requires in (p.0, omega (arith, rw c.in-Speech.is at p.1))

pub data_place-requires : goal.data_place-requires
data_place-requires c = let p = c.requires in (p.0, (like_data _ c.args.d c.in-Data.is p.0 p.1).0)

pub om_place-requires : goal.om_place-requires
om_place-requires c = let p = c.requires in (p.0, omega (arith, rw c.in-Om.is at p.1))

pub low_place-requires : goal.low_place-requires
low_place-requires c = let p = c.requires in (p.0, (like_lower _ c.args.d c.in-NoSpeech.is p.0 p.1).0)

pub place_670-requires : goal.place_670-requires
place_670-requires c = let p = c.requires in (p.0, omega (arith, rw c.in-Amr670.is at p.1))

pub place_740-requires : goal.place_740-requires
place_740-requires c = let p = c.requires in (p.0, omega (arith, rw c.in-Amr740.is at p.1))

pub returns-in-Speech : goal.returns-in-Speech
returns-in-Speech c = rw c.in-Speech.is c.speech_place.ensures

pub returns-in-Data : goal.returns-in-Data
returns-in-Data c = let p = c.requires in c.data_place.ensures ∙ sym (like_data _ c.args.d c.in-Data.is p.0 p.1).1

pub returns-in-Om : goal.returns-in-Om
returns-in-Om c = rw c.in-Om.is c.om_place.ensures

pub returns-in-NoSpeech : goal.returns-in-NoSpeech
returns-in-NoSpeech c = let p = c.requires in c.low_place.ensures ∙ sym (like_lower _ c.args.d c.in-NoSpeech.is p.0 p.1).1

pub returns-in-Amr670 : goal.returns-in-Amr670
returns-in-Amr670 c = rw c.in-Amr670.is c.place_670.ensures

pub returns-in-Amr740 : goal.returns-in-Amr740
returns-in-Amr740 c = rw c.in-Amr740.is c.place_740.ensures
