use borrow.Author.Rules.{rules}
use Rattle.frame.specs.Turns.{width_of}
use Rattle.frame.proofs.width.Goals as goal

pub enum_told-1 : goal.enum_told-1
unfolding width_of
enum_told-1 c = search rules

pub enum_told-in-Bool : goal.enum_told-in-Bool
unfolding width_of
enum_told-in-Bool c = search rules

pub enum_told-in-I08 : goal.enum_told-in-I08
unfolding width_of
enum_told-in-I08 c = search rules

pub enum_told-in-I16 : goal.enum_told-in-I16
unfolding width_of
enum_told-in-I16 c = search rules

pub enum_told-in-I32 : goal.enum_told-in-I32
unfolding width_of
enum_told-in-I32 c = search rules

pub enum_told-in-I64 : goal.enum_told-in-I64
unfolding width_of
enum_told-in-I64 c = search rules

pub enum_told-in-Double : goal.enum_told-in-Double
unfolding width_of
enum_told-in-Double c = search rules

pub enum_told-in-String : goal.enum_told-in-String
unfolding width_of
enum_told-in-String c = search rules

pub enum_told-in-List : goal.enum_told-in-List
unfolding width_of
enum_told-in-List c = search rules

pub enum_told-in-Set : goal.enum_told-in-Set
unfolding width_of
enum_told-in-Set c = search rules

pub enum_told-in-Map : goal.enum_told-in-Map
unfolding width_of
enum_told-in-Map c = search rules

pub enum_told-in-Struct : goal.enum_told-in-Struct
unfolding width_of
enum_told-in-Struct c = search rules

pub enum_told-in-Uuid : goal.enum_told-in-Uuid
unfolding width_of
enum_told-in-Uuid c = search rules

pub returns-in-Stop : goal.returns-in-Stop
unfolding width_of
returns-in-Stop c = search rules

pub returns-in-Bool : goal.returns-in-Bool
unfolding width_of
returns-in-Bool c = search rules

pub returns-in-I08 : goal.returns-in-I08
unfolding width_of
returns-in-I08 c = search rules

pub returns-in-I16 : goal.returns-in-I16
unfolding width_of
returns-in-I16 c = search rules

pub returns-in-I32 : goal.returns-in-I32
unfolding width_of
returns-in-I32 c = search rules

pub returns-in-I64 : goal.returns-in-I64
unfolding width_of
returns-in-I64 c = search rules

pub returns-in-Double : goal.returns-in-Double
unfolding width_of
returns-in-Double c = search rules

pub returns-in-String : goal.returns-in-String
unfolding width_of
returns-in-String c = search rules

pub returns-in-List : goal.returns-in-List
unfolding width_of
returns-in-List c = search rules

pub returns-in-Set : goal.returns-in-Set
unfolding width_of
returns-in-Set c = search rules

pub returns-in-Map : goal.returns-in-Map
unfolding width_of
returns-in-Map c = search rules

pub returns-in-Struct : goal.returns-in-Struct
unfolding width_of
returns-in-Struct c = search rules

pub returns-in-Uuid : goal.returns-in-Uuid
unfolding width_of
returns-in-Uuid c = search rules
