use Rattle.svg_picture.proofs.Drawing.{refused_alike}
use Rattle.svg_picture.proofs.laws.refused_alike_law.Goals as goal

pub returns : goal.returns
returns c = λ input text words asked draws. refused_alike input text words asked draws
