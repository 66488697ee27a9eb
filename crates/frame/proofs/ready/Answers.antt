use Rattle.frame.proofs.Tests.{ready_cases}
use Rattle.frame.proofs.ready.Goals as goal

pub returns-in-Fields : goal.returns-in-Fields
returns-in-Fields c = search ready_cases

pub returns-in-Items : goal.returns-in-Items
returns-in-Items c = search ready_cases

pub returns-in-Keys : goal.returns-in-Keys
returns-in-Keys c = search ready_cases

pub returns-in-Values : goal.returns-in-Values
returns-in-Values c = search ready_cases

pub returns-in-Truth : goal.returns-in-Truth
returns-in-Truth c = search ready_cases

pub returns-in-List : goal.returns-in-List
returns-in-List c = search ready_cases

pub returns-in-Types : goal.returns-in-Types
returns-in-Types c = search ready_cases

pub returns-in-Varint : goal.returns-in-Varint
returns-in-Varint c = search ready_cases

pub returns-in-Number : goal.returns-in-Number
returns-in-Number c = search ready_cases
