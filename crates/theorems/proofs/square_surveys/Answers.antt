use Rattle.theorems.proofs.Theorems.{survey-parts}
use Rattle.theorems.proofs.square_surveys.Goals as goal

pub returns : goal.returns
returns c = record { survey_parts = survey-parts }
