-- Which statement is an alloc. Assumes nothing.
use Rattle.std.specs.Prelude.{Option, Some, None, Ok, Err}
use Rattle.statement.specs.Reading.{Reading}
use Rattle.statement.specs.declared.Statement.{Statement}
use Rattle.statement.specs.Views.{request_of, of}
use Rattle.printed.specs.declared.Asked.{Asked}

-- the name and the columns of an alloc
unfoldable pub alloc_of : Statement → Option Asked
alloc_of t = of (request_of t) (λ r. Some (record { name = r.name; columns = r.columns })) None

-- a text that does not read is no alloc
abbrev pub alloc_in : Reading → Option Asked
alloc_in (Ok t) = alloc_of t
alloc_in (Err m) = None
