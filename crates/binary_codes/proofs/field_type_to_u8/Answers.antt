use Rattle.binary_codes.specs.Codes.{binary_code}
use Rattle.binary_codes.proofs.field_type_to_u8.Goals as goal

pub returns-in-Stop : goal.returns-in-Stop
unfolding binary_code
returns-in-Stop c = cc

pub returns-in-Bool : goal.returns-in-Bool
unfolding binary_code
returns-in-Bool c = cc

pub returns-in-I08 : goal.returns-in-I08
unfolding binary_code
returns-in-I08 c = cc

pub returns-in-Double : goal.returns-in-Double
unfolding binary_code
returns-in-Double c = cc

pub returns-in-I16 : goal.returns-in-I16
unfolding binary_code
returns-in-I16 c = cc

pub returns-in-I32 : goal.returns-in-I32
unfolding binary_code
returns-in-I32 c = cc

pub returns-in-I64 : goal.returns-in-I64
unfolding binary_code
returns-in-I64 c = cc

pub returns-in-String : goal.returns-in-String
unfolding binary_code
returns-in-String c = cc

pub returns-in-Struct : goal.returns-in-Struct
unfolding binary_code
returns-in-Struct c = cc

pub returns-in-Map : goal.returns-in-Map
unfolding binary_code
returns-in-Map c = cc

pub returns-in-Set : goal.returns-in-Set
unfolding binary_code
returns-in-Set c = cc

pub returns-in-List : goal.returns-in-List
unfolding binary_code
returns-in-List c = cc

pub returns-in-Uuid : goal.returns-in-Uuid
unfolding binary_code
returns-in-Uuid c = cc
