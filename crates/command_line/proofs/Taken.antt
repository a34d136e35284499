-- The command is simple, and clap takes the words exactly where it finds no fault.
use Rattle.std.proofs.Common.{◌≡◌, Bool, true, false, refl, ◌≢◌}
use Rattle.clap.specs.Words.{is_simple, is_simple_and_free, kind_of}
use Rattle.clap.specs.declared.error.Error.{Error}
use Rattle.clap.specs.declared.error.kind.ErrorKind.TheVariants.{OutOfMemory}
use Rattle.clap.proofs.OnLiterals.{clap_on_literals}
use Rattle.command_line.specs.App.{app}

-- the command is simple
pub is_simple-app : is_simple app ≡ true
unfolding app clap_on_literals
is_simple-app = refl

-- the command is simple, and no argument has a rule on another
pub is_free-app : is_simple_and_free app ≡ true
unfolding app clap_on_literals
is_free-app = refl

-- words that clap refuses for another cause than want of memory are not taken
pub not_taken : (taken : Bool) (e : Error) → (taken ≡ true → kind_of e ≡ OutOfMemory) → kind_of e ≢ OutOfMemory → taken ≡ false
not_taken true e memory other = absurd (other (memory refl))
not_taken false e memory other = refl
