use Rattle.std.proofs.Common.{◌≡◌, ℕ, List, [], ◌∷◌, ◌++◌, append-nil, append_assoc, Bool, ap, ◌∙◌, flat_map}
use Rattle.std.specs.List.{list_any}
use Rattle.std.proofs.lemmas.List.Concat.{flat_map-append}
use Rattle.load_maker.specs.declared.call.Call.{Call}
use Rattle.load_maker.specs.declared.call.Call.TheVariants.{Open, Close}
use Rattle.load_maker.specs.Sessions.{most_draws, calls_within, is_write, line, session_text, sync_where}
use Rattle.load_maker.proofs.log.push_session.Goals as goal

-- the text of two lists of calls and one more
three : (f : Call → List ℕ) (a b : List Call) (c : Call) → flat_map f (a ++ b ++ c ∷ []) ≡ flat_map f a ++ (flat_map f b ++ f c)
three f a b c = flat_map-append f (a ++ b) (c ∷ []) ∙ rw (flat_map-append f a b, append-nil (f c)) (append_assoc (flat_map f a) (flat_map f b) (f c))

-- the parts of a session
parts : (session x : ℕ) → session_text session x ≡
    line session Open ++ (flat_map (line session) (calls_within most_draws x) ++ (flat_map (line session) (sync_where (list_any is_write (calls_within most_draws x))) ++ line session Close))
unfolding session_text
parts session x = ap (λ t. line session Open ++ t) (three (line session) (calls_within most_draws x) (sync_where (list_any is_write (calls_within most_draws x))) Close)

-- put one behind the other
joined : (session x : ℕ) (wrote : Bool) (t0 t1 t2 t3 t4 : List ℕ)
    → t1 ≡ t0 ++ line session Open
    → t2 ≡ t1 ++ flat_map (line session) (calls_within most_draws x)
    → wrote ≡ list_any is_write (calls_within most_draws x)
    → t3 ≡ t2 ++ flat_map (line session) (sync_where wrote)
    → t4 ≡ t3 ++ line session Close
    → t4 ≡ t0 ++ session_text session x
joined session x wrote t0 t1 t2 t3 t4 e1 e2 ew e3 e4 = rw (e4, e3, ew, e2, e1, parts session x) (simp append_assoc)

pub returns-clause-lines : goal.returns-clause-lines
returns-clause-lines c =
    joined c.args.session c.args.generator.now.state c.in_ok-wrote.wrote c.args.text.now.items c.push_line.new.text.items c.push_drawn.new.text.items c.push_sync.new.text.items _
    c.in_ok-push_line.ensures c.in_ok-wrote.ensures.lines c.in_ok-wrote.ensures.wrote c.in_ok-push_sync.ensures c.in_ok-push_line-2.ensures
