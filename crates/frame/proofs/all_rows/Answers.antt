use Rattle.frame.proofs.all_rows.Goals as goal

pub returns : goal.returns
returns c = c.well_formed.0.1.0.1
