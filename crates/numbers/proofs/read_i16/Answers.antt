use Rattle.numbers.proofs.Cases.{i16_cases}
use Rattle.numbers.proofs.read_i16.Goals as goal

pub returns-then-v-lt65536 : goal.returns-then-v-lt65536
returns-then-v-lt65536 c = search i16_cases

pub returns-else-v-lt65536 : goal.returns-else-v-lt65536
returns-else-v-lt65536 c = search i16_cases

pub returns-in-Refused : goal.returns-in-Refused
returns-in-Refused c = search i16_cases
