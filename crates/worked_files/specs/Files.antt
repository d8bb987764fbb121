-- The bytes of version 1 files, put together from their records.
use Rattle.std.specs.Prelude.{ℕ, List, [], ◌++◌, replicate}
use Rattle.binary.specs.Bytes.{bytes_of}
use Rattle.casefile.specs.Layout.{first_version}
use Rattle.casefile.specs.File.{file_in}

unfoldable pub file_of : (units references past events : List ℕ) → List ℕ
file_of u r p e = file_in first_version u r p e

unfoldable pub unit_bytes : (number group area capability : ℕ) → List ℕ
unit_bytes number group area capability =
    bytes_of 2 number ++ bytes_of 2 group ++ bytes_of 1 area ++ bytes_of 3 0 ++ bytes_of 4 capability ++ replicate 12 0

unfoldable pub reference_bytes : (unit component value : ℕ) → List ℕ
reference_bytes unit component value = bytes_of 2 unit ++ bytes_of 1 component ++ bytes_of 1 0 ++ bytes_of 4 value

unfoldable pub entry_bytes : (group kind market period day : ℕ) → List ℕ
entry_bytes group kind market period day =
    bytes_of 2 group ++ bytes_of 1 kind ++ bytes_of 1 market ++ bytes_of 2 period ++ bytes_of 2 0 ++ bytes_of 4 day

-- an event of component 0 whose P, Q, R are 0 and whose hour 0 has a and b
unfoldable pub event_bytes : (kind market unit period impact day a b : ℕ) → List ℕ
event_bytes kind market unit period impact day a b =
    bytes_of 1 kind ++ bytes_of 1 market ++ bytes_of 2 unit ++ bytes_of 2 period ++ bytes_of 1 0 ++ bytes_of 1 impact ++ bytes_of 4 day
    ++ replicate 12 0 ++ bytes_of 4 a ++ bytes_of 4 b ++ replicate 280 0

-- the listing's units 12 and 13, of one group, and its withheld event
unfoldable pub units : List ℕ
units = unit_bytes 12 1 0 5000 ++ unit_bytes 13 1 0 15000

unfoldable pub withheld : (market unit a : ℕ) → List ℕ
withheld market unit a = event_bytes 1 market unit 44 1 8000 a 4000

unfoldable pub listing : List ℕ
listing = file_of units [] [] (withheld 0 12 501)
