use Rattle.std.proofs.Common.{◌≡◌, ℕ, ◌≤◌, length}
use Rattle.json.specs.Json.{members, value}
use Rattle.serde_json.specs.Data.{Members, no_members}
use Rattle.serde_json.specs.Read.{of_members, converted}
use Rattle.model_file.specs.declared.found.TheConstants.{FIELD_DEPTH}
use Rattle.model_file.specs.Streams.{members_at}
use Rattle.model_file.specs.Found.{found_in}
use Rattle.model_file.proofs.found.read_members.Given as goal

abbrev pub invariant-members : goal.invariant-members
invariant-members l =
    (n : ℕ) × (old : Members) × (length l.reader ≤ n)
    × (members_at no_members FIELD_DEPTH l.initial.reader ≡ converted (λ ms. of_members ms old) (members (value FIELD_DEPTH) n l.reader))
    × (l.found ≡ found_in l.version old)

abbrev pub decreases-members : goal.decreases-members
decreases-members l = length l.reader
