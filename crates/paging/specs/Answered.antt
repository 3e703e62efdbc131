-- What is answered of a page that was filled.
-- Assumes nothing.
use Rattle.std.specs.Prelude.{cond, ◌&&◌, ℕ, eqb, ltb}
use Rattle.reading.specs.Reading.{Cursor}
use Rattle.channel.specs.Verdict.{Context}
use Rattle.call.specs.declared.Answer.{Answer}
use Rattle.call.specs.Call.{answered_by, refused}
use Rattle.call.specs.declared.PageRequest.{PageRequest}

-- 4 where an item is left and none was taken
abbrev pub answer_of : PageRequest → ℕ → ℕ → Cursor Context → Answer
answer_of r items bytes to = cond (eqb items 0 && ltb r.cursor.position r.n) (refused 4 r.cursor) (answered_by items bytes to)
