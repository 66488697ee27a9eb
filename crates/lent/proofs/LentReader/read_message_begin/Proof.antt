-- `LentReader::read_message_begin` meets its contract, by the walk that stands in `Thin` and the theorem of `Meets`. All that is known of `input`'s call is that it meets
-- its contract. Assumes nothing.
use denote.Triple.Spec.{triple_of}
use denote.Triple.Table.{entered}
use contract.Running.{tables, tables_of}
use Rattle.input.specs.Calls.{read_message}
use Rattle.input.proofs.TCompactInputProtocol.read_message_begin.Symbol.{name as #plain}
use Rattle.input.proofs.TCompactInputProtocol.read_message_begin.Met as plain-thm
use Rattle.lent.specs.Lent.{lent_message}
use Rattle.lent.proofs.Meets.{meets}
use Rattle.lent.proofs.Three.{message}
use Rattle.lent.specs.contracts.LentReader.read_message_begin.Key.{name as #lent}
use Rattle.lent.specs.contracts.LentReader.read_message_begin as lent
use Rattle.lent.proofs.LentReader.read_message_begin.Statement as stated
use Rattle.lent.proofs.LentReader.read_message_begin.Code as code

pub read_message_begin_spec : {M : Type 1} → stated.statement M
unfolding tables_of lent_message
read_message_begin_spec 𝓤 𝓛 𝓜 𝓡 wired =
    let 𝓣 = tables 𝓤 𝓛.H 𝓜 𝓡 𝓡.env in
    entered 𝓤 𝓛.H (triple_of 𝓛 lent.signature (lent.spec 𝓛 𝓜.mem 𝓡.returns)) 𝓣.C 𝓣.Λ #lent code.function (code.unfolded 𝓤 𝓛.H 𝓜 𝓡 wired)
    (meets message #plain read_message 𝓛 (tables_of 𝓤 𝓛.H 𝓜 𝓣) (plain-thm.met 𝓤 𝓛 𝓜 𝓡 (code.calls-input::TCompactInputProtocol::read_message_begin 𝓡.env wired)))
