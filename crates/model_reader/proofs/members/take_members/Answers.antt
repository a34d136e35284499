use Rattle.invariants.specs.declared.records.Model.{Model}
use Rattle.model_reader.proofs.Objects.{taken_whole}
use Rattle.model_reader.proofs.members.take_members.Goals as goal

pub returns : goal.returns
returns c =
    let m : Model = record {
      types = c.in_ok-model-8.field-0;
      kinds = c.in_ok-model-4.field-0;
      partitions = c.in_ok-model-6.field-0;
      edges = c.in_ok-model-2.field-0;
      invariants = c.in_ok-model-3.field-0;
      splits = c.in_ok-model-7.field-0;
      merges = c.in_ok-model-5.field-0;
      blocks = c.in_ok-model.field-0;
    } in
    taken_whole m c.args.rest.now c.take_member.new.rest c.take_member-2.new.rest c.take_member-3.new.rest c.text.new.self c.take_kinds.new.rest
    c.take_member-4.new.rest c.take_member-5.new.rest c.take_member-6.new.rest c.take_member-7.new.rest c.text-2.new.self
    c.in_ok-model.ensures c.in_ok-model-2.ensures c.in_ok-model-3.ensures c.in_ok-text.ensures c.in_ok-model-4.ensures
    c.in_ok-model-5.ensures c.in_ok-model-6.ensures c.in_ok-model-7.ensures c.in_ok-model-8.ensures c.in_ok-text-2.ensures
