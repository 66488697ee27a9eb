use Rattle.std.proofs.Common.{rules, take}
use Rattle.std.proofs.lemmas.List.{take_min}
use Rattle.std.proofs.Common.{ap, ◌∙◌}
use Rattle.system.proofs.put_text.Goals as goal

-- src/lib.rt:99:1
pub returns-clause-text : goal.returns-clause-text
returns-clause-text g c = (c.args.room.now, c.put-end.result, c.put-end.new.arg2, search rules, search rules, ap (λ k. take k c.put-end.new.arg2) c.min.ensures ∙ take_min c.put-end.result c.put-end.new.arg2)
