-- `drawing::drawings` meets its contract.
-- Assumes nothing.
use Rattle.text.proofs.TextLaws.{put-put}
use Rattle.drawing.specs.Drawing.{all_drawings}
use Rattle.drawing.proofs.drawings.Goals as goal

pub returns-clause-put : goal.returns-clause-put
unfolding all_drawings
returns-clause-put c =
    let four = put-put (put-put (put-put c.draw.ensures.put c.draw-2.ensures.put) c.draw-3.ensures.put) c.draw-4.ensures.put in
    put-put (put-put (put-put (put-put four c.draw-5.ensures.put) c.draw-6.ensures.put) c.draw-7.ensures.put) c.draw-8.ensures.put
