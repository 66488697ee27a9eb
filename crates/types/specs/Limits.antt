-- The limits that travel with a state. Assumes nothing: these are definitions.
use Rattle.std.specs.Prelude.{Bool, ◌&&◌, leb}
use Rattle.types.specs.declared.TConfiguration.{TConfiguration}

-- "depth 0 to 64; longest string and largest container each 0 to 2,147,483,647"; "a largest message, 0 to 2,147,483,647"
unfoldable pub in_range : TConfiguration → Bool
in_range lim = leb lim.depth 64 && leb lim.string 2147483647 && leb lim.container 2147483647 && leb lim.message 2147483647

-- the defaults of the Rust's TConfiguration: recursion 64, strings and messages 100 MiB each, no limit on containers, which is the largest count there is
unfoldable pub defaults : TConfiguration
defaults = record { depth = 64; string = 104857600; container = 2147483647; message = 104857600 }
