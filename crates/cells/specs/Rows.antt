-- A row of the table as the code holds it. Assumes nothing.
use Rattle.statement.specs.declared.Shape.{Shape}
use Rattle.statement.specs.Cells.{cells}
use Rattle.cells.specs.declared.Row.{Row}

abbrev pub row_of : Shape → Row
row_of shape =
    let c = cells shape in
    record { registers = c.registers; lanes = c.lanes; columns = c.columns; largest = c.largest }
