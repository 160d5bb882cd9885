use Rattle.table_reads.proofs.OurImage.{held_image, image_stands, our_image_held}
use Rattle.table_reads.proofs.laws.our_rows_are_an_image.Goals as goal

pub returns-clause-image : goal.returns-clause-image
returns-clause-image c = held_image

pub returns-clause-stands : goal.returns-clause-stands
returns-clause-stands c = image_stands

pub returns-clause-held : goal.returns-clause-held
returns-clause-held c = our_image_held
