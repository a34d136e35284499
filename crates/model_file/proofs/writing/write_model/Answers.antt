use Rattle.std.proofs.Common.{◌≡◌, ℕ, List, ◌++◌, IsUtf8, ap, ◌∙◌, subst}
use Rattle.json.specs.Print.{print}
use Rattle.model_file.specs.Tree.{file_text}
use Rattle.model_file.specs.Reading.{reads}
use Rattle.model_file.proofs.Limit.{short-enough}
use Rattle.model_file.proofs.Telling.{passes}
use Rattle.model_file.proofs.Trees.{text-reads-back, printed}
use Rattle.model_file.proofs.writing.write_model.Goals as goal

pub returns-clause-value : goal.returns-clause-value
returns-clause-value c =
    let text = printed c.args.model.now c.new-out.result.tokens c.write_tree.new.out.tokens c.new-out.ensures.tokens c.in_ok-write_tree.ensures.ok in
    c.from_vec.ensures ∙ c.into_inner.ensures.items
    ∙ ap (λ (bytes : List ℕ). bytes ++ print c.write_tree.new.out.tokens) (c.in_ok-write_tree.ensures.before ∙ c.new-out.ensures.before ∙ c.in_ok-text.ensures.items) ∙ text

pub returns-clause-reads_back : goal.returns-clause-reads_back
returns-clause-reads_back c =
    let m = c.args.model.now in
    let text = printed m c.new-out.result.tokens c.write_tree.new.out.tokens c.new-out.ensures.tokens c.in_ok-write_tree.ensures.ok in
    let whole : c.from_vec.result ≡ file_text m =
    c.from_vec.ensures ∙ c.into_inner.ensures.items
    ∙ ap (λ (bytes : List ℕ). bytes ++ print c.write_tree.new.out.tokens) (c.in_ok-write_tree.ensures.before ∙ c.new-out.ensures.before ∙ c.in_ok-text.ensures.items) ∙ text in
    ap reads whole ∙ text-reads-back m (passes m c.requires) (subst IsUtf8 text c.into_inner.ensures.utf8) (short-enough m (passes m c.requires))
