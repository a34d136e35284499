use Rattle.synoptic_cli.proofs.Migrated.{migrated-alike, migrations-end}
use Rattle.synoptic_cli.proofs.law.migrations_keep_models.Goals as goal

pub returns-clause-ends : goal.returns-clause-ends
returns-clause-ends c = migrations-end

pub returns-clause-alike : goal.returns-clause-alike
returns-clause-alike c = migrated-alike
