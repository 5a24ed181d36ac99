-- Records by their rows.
use Rattle.std.specs.Prelude.{ℕ, cond, [], ◌∷◌, Some, None, Ok, Err, Option, Result, nat_lt}
use Rattle.messages.specs.declared.refusals.Refusal.{Refusal}
use Rattle.messages.specs.Refusals.{refusal_number}
use Rattle.directory.specs.declared.rows.Row.{Row}
use Rattle.directory.specs.declared.records.Record.{Record}
use Rattle.directory.specs.Directory.{Directory, directory, view_of}

-- the row of a record, if there is one
abbrev pub row_in : Option Record → Option Row
row_in None = None
row_in (Some r) = Some r.row

-- nobody has a copy, and nothing waits
abbrev pub fresh : Directory
fresh = directory [] [] None

-- one zone has the only copy; 17 above zone 7
abbrev pub loaded_at : ℕ → Result Directory ℕ
loaded_at zone = cond (nat_lt zone 8) (Ok (directory (zone ∷ []) [] None)) (Err 17)

-- what making a record comes to: the directory that it stands for, or the refusal's number
abbrev pub viewed : Result Record Refusal → Result Directory ℕ
viewed (Ok r) = Ok (view_of r.row)
viewed (Err e) = Err (refusal_number e)
