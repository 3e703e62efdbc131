-- `writing::write` meets its contract, for every request there can be.
-- Assumes nothing.
use Rattle.std.proofs.Common.{sym, length}
use Rattle.refusal.proofs.RefusalLaws.{writable}
use Rattle.writing.proofs.write.Goals as goal

pub judge_all-judged-requires : goal.judge_all-judged-requires
judge_all-judged-requires c =
    let a = c.args in
    (writable (length a.records.now) a.r (length a.buffer.now) (sym c.in_default.ensures)).few
