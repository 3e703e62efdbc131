-- The numbers 1 to 3, in their order (document 01, "Records and calls": the table of numbers).
-- Assumes nothing.
use Rattle.std.specs.Prelude.{cond, ℕ, ◌*◌, eqb, ltb}
use Rattle.call.specs.declared.PageRequest.{PageRequest}
use Rattle.call.specs.declared.WriteRequest.{WriteRequest}

-- paging: direction above 1 or most items 0; over 65,536 bytes of capture or n too large; cursor beyond n or context
-- above 5; 0 where none of them is given
abbrev pub page_refusal : ℕ → PageRequest → ℕ
page_refusal bytes r =
    cond (ltb 1 r.terms.direction) 1
    (cond (eqb r.most 0) 1
    (cond (ltb 65536 bytes) 2
    (cond (ltb (8 * bytes) r.n) 2
    (cond (ltb r.n r.cursor.position) 3
    (cond (ltb 5 r.cursor.context) 3 0)))))

-- writing: direction above 1 or over 65,536 bytes of records; over 65,536 bytes of buffer; cursor beyond 8 times the
-- buffer or context above 5; 0 where none of them is given
abbrev pub write_refusal : ℕ → WriteRequest → ℕ → ℕ
write_refusal bytes r room =
    cond (ltb 1 r.terms.direction) 1
    (cond (ltb 65536 bytes) 1
    (cond (ltb 65536 room) 2
    (cond (ltb (8 * room) r.cursor.position) 3
    (cond (ltb 5 r.cursor.context) 3 0))))
