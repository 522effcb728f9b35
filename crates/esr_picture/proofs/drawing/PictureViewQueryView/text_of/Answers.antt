-- Why `PictureViewQueryView::text_of` keeps its contract: the goals that are left to a proof of ours.
use Rattle.esr_picture.proofs.drawing.PictureViewQueryView.text_of.Goals as goal

pub returns : goal.returns
returns c s name answered = c.draw.ensures
