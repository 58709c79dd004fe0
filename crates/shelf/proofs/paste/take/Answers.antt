-- The stretch on the shelf is copied back, where it fits.
use Rattle.shelf.proofs.Pasting.{back_by, unback}
use Rattle.shelf.proofs.paste.take.Goals as goal

pub returns-in-Some : goal.returns-in-Some
returns-in-Some g c = back_by _ _ _ _ _ _ c.in-Some.ensures.value c.in-Some.ensures.lies.0 c.copy.ensures

pub returns-in_default : goal.returns-in_default
returns-in_default g c = unback _ _ _ _ c.in_default.ensures.value
