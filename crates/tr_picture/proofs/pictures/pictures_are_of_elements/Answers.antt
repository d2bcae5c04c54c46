use Rattle.tr_picture.proofs.Trees.{are_pictures}
use Rattle.tr_picture.proofs.pictures.pictures_are_of_elements.Goals as goal

pub returns : goal.returns
returns c = are_pictures
