-- The stretch on the shelf is copied, where it fits.
use Rattle.shelf.proofs.Pasting.{put_by, unput}
use Rattle.shelf.proofs.paste.put.Goals as goal

pub returns-in-Some : goal.returns-in-Some
returns-in-Some g c =
    put_by _ _ _ _ _ _ c.in-Some.ensures.value c.in-Some.ensures.lies.1 c.copy.ensures

pub returns-in_default : goal.returns-in_default
returns-in_default g c = unput _ _ _ _ (c.in_default.ensures.value)
