use Rattle.std.proofs.Common.{◌≡◌, ◌≤◌, ◌-◌, ◌++◌, length, take}
use Rattle.model_file.specs.Tree.{number_data}
use Rattle.model_reader.proofs.Listing.{texts_before}
use Rattle.model_reader.proofs.decimals.numbers_in_list.Given as goal

abbrev pub invariant-numbers : goal.invariant-numbers
invariant-numbers l = record {
  within : l.count ≤ length l.numbers;
  text : l.fn.bytes ≡ texts_before number_data (take l.count l.numbers) ++ l.rest;
}

abbrev pub decreases-numbers : goal.decreases-numbers
decreases-numbers l = length l.numbers - l.count
