use Rattle.std.proofs.Common.{◌≡◌, take}
use Rattle.reports.specs.Reports.{json_texts}
use Rattle.reports.proofs.name.quote_all.Given as goal

abbrev pub invariant-loop-text : goal.invariant-loop-text
invariant-loop-text l = l.texts.items ≡ json_texts (take l.text-index l.types)
