-- Stages that were read one after another.
use Rattle.std.proofs.Common.{Bool, Some, ◌≡◌, ℕ, zero, suc, refl, ◌+◌, ◌-◌, ◌^◌, ◌<◌, ◌≤◌, min, List, [], ◌∷◌, ◌++◌, append-nil, length, take, Option, Result, Ok, Err, sym, ap, ◌∙◌, subst, arith, inl, inr, ⊎_elim}
use Rattle.std.proofs.Math.Seq.{take-append-add, take-append_seam}
use Rattle.std.proofs.lemmas.List.{append_assoc, length-append, take-append-le}
use Rattle.std.specs.Io.KnownBytes.{IsAtEnd}
use Rattle.outside.specs.Inputs.{Files, InputState, Stays}
use Rattle.outside.specs.Reading.{IfTold, LosesFront}
use Rattle.outside.specs.Turns.{OpensFirst, OpensInTurn}
use Rattle.outside.proofs.Turns.{turn-both}
use Rattle.std.proofs.lemmas.Bool.{cases_lt}
use Rattle.model_file.specs.declared.version.Version.{Version}
use Rattle.log_reader.specs.Inputs.{Opened, StopsBefore, opens_after}
use Rattle.command_line.specs.Task.{Task}
use Rattle.synoptic_cli.specs.declared.status.Source.{Source}
use Rattle.synoptic_cli.specs.Task.{Stage, input_count, input_names, inputs_before, stage_names}
use Rattle.synoptic_cli.specs.Stages.{SoFar, Stop, after, reads}
use Rattle.synoptic_cli.specs.Endings.{SomeBytes, OpenedAll, OpensAll, ReadAll}
use Rattle.synoptic_cli.specs.declared.stages.SoFar as rust
use Rattle.synoptic_cli.specs.Causes.{IsRoom, LeavesOpen}
use Rattle.synoptic_cli.specs.Halts.{HasRead, Reads}
use Rattle.synoptic_cli.proofs.Bytes.{bytes-both, bytes-count, bytes-first, filled_count, input_count-append, later, reads-append, reads-stop}

-- the stages were read up to a stop
pub record StopsReading (stages : List Stage) (old new : InputState) (before : SoFar) (stop : Stop) : Type 0 where
  pub bytes : SomeBytes old.files stages (λ filled. reads before filled ≡ Err stop)
  pub opened : OpenedAll stop.count old new

-- so many inputs were opened, in whichever way their number is given
pub opened-is : (a b : ℕ) (old new : InputState) → a ≡ b → Opened a old new → Opened b old new
opened-is a b old new same opened = subst (λ n. Opened n old new) same opened

-- where inputs were opened and then more, as many as both were opened
pub opened-both : (a b : ℕ) (old mid new : InputState) → Opened a old mid → Opened b mid new → Opened (a + b) old new
opened-both a b old mid new first second = record { opens = omega (arith, first.opens, second.opens); faults = second.faults ∙ first.faults }

-- where inputs were read and then more opened, as many as both were opened
pub opens-both : (a b : ℕ) (old mid new : InputState) → ReadAll a old mid → OpenedAll b mid new → OpenedAll (a + b) old new
opens-both a b old mid new first second =
    ⊎_elim
    (λ (some : (0 < a) × Opened a old mid × IsAtEnd mid.rest). ⊎_elim
    (λ (more : (0 < b) × Opened b mid new). inl (omega (arith, some.0), opened-both a b old mid new some.1 more.1))
    (λ (none : (b ≡ 0) × (new ≡ mid)).
    inl (omega (arith, some.0), subst (λ (s : InputState). Opened (a + b) old s) (sym none.1) (opened-is a (a + b) old mid (omega (arith, none.0)) some.1)))
    second)
    (λ (none : (a ≡ 0) × (mid ≡ old)). ⊎_elim
    (λ (more : (0 < b) × Opened b mid new).
    inl (omega (arith, more.0), opened-is b (a + b) old new (omega (arith, none.0)) (subst (λ (s : InputState). Opened b s new) none.1 more.1)))
    (λ (both : (b ≡ 0) × (new ≡ mid)). inr (omega (arith, none.0, both.0), both.1 ∙ none.1))
    second)
    first

-- where inputs were read and then more, as many as both were read
pub read-both : (a b : ℕ) (old mid new : InputState) → ReadAll a old mid → ReadAll b mid new → ReadAll (a + b) old new
read-both a b old mid new first second =
    ⊎_elim
    (λ (some : (0 < a) × Opened a old mid × IsAtEnd mid.rest). ⊎_elim
    (λ (more : (0 < b) × Opened b mid new × IsAtEnd new.rest). inl (omega (arith, some.0), opened-both a b old mid new some.1 more.1, more.2))
    (λ (none : (b ≡ 0) × (new ≡ mid)).
    let here = subst (λ (s : InputState). Opened (a + b) old s × IsAtEnd s.rest) (sym none.1) (opened-is a (a + b) old mid (omega (arith, none.0)) some.1, some.2) in
    inl (omega (arith, some.0), here.0, here.1))
    second)
    (λ (none : (a ≡ 0) × (mid ≡ old)). ⊎_elim
    (λ (more : (0 < b) × Opened b mid new × IsAtEnd new.rest).
    inl (omega (arith, more.0), opened-is b (a + b) old new (omega (arith, none.0)) (subst (λ (s : InputState). Opened b s new) none.1 more.1), more.2))
    (λ (both : (b ≡ 0) × (new ≡ mid)). inr (omega (arith, none.0, both.0), both.1 ∙ none.1))
    second)
    first

-- inputs that were read were opened
pub read-opens : (count : ℕ) (old new : InputState) → ReadAll count old new → OpenedAll count old new
read-opens count old new read =
    ⊎_elim (λ (some : (0 < count) × Opened count old new × IsAtEnd new.rest). inl (some.0, some.1)) (λ (none : (count ≡ 0) × (new ≡ old)). inr none) read

-- no fault was counted where inputs were read
pub read-faults : (count : ℕ) (old new : InputState) → ReadAll count old new → new.faults ≡ old.faults
read-faults count old new read =
    ⊎_elim (λ (some : (0 < count) × Opened count old new × IsAtEnd new.rest). some.1.faults) (λ (none : (count ≡ 0) × (new ≡ old)). ap (λ (s : InputState). s.faults) none.1) read

-- where inputs were read, no more than these were opened
pub read-most : (count : ℕ) (old new : InputState) → ReadAll count old new → new.opens ≤ old.opens + count
read-most count old new read =
    ⊎_elim (λ (some : (0 < count) × Opened count old new × IsAtEnd new.rest). omega (arith, some.1.opens))
    (λ (none : (count ≡ 0) × (new ≡ old)). let same : new.opens ≡ old.opens = ap (λ (s : InputState). s.opens) none.1 in omega (arith, same)) read

after-none : (opens count : ℕ) → count ≡ 0 → opens_after opens count ≡ opens
after-none opens zero is = refl
after-none opens (suc count) is = absurd (omega (arith, is))

after-some : (opens count : ℕ) → 0 < count → opens_after opens count ≡ min (opens + count) (2 ^ 64 - 1)
after-some opens zero some = absurd (omega (arith, some))
after-some opens (suc count) some = refl

-- inputs that were opened after those that were read
opens-through : (a b opens : ℕ) (old mid : InputState) → ReadAll a old mid → opens ≡ opens_after mid.opens b → opens ≡ opens_after old.opens (a + b)
opens-through a b opens old mid read is =
    ⊎_elim
    (λ (some : (0 < a) × Opened a old mid × IsAtEnd mid.rest).
    let all : opens_after old.opens (a + b) ≡ min (old.opens + (a + b)) (2 ^ 64 - 1) = after-some old.opens (a + b) (omega (arith, some.0)) in
    ⊎_elim
    (λ (more : 0 < b). omega (arith, is, all, after-some mid.opens b more, some.1.opens))
    (λ (none : b ≤ 0). omega (arith, is, all, after-none mid.opens b (omega (arith, none)), some.1.opens, none))
    (cases_lt 0 b))
    (λ (none : (a ≡ 0) × (mid ≡ old)).
    subst (λ (n : ℕ). opens ≡ opens_after old.opens n) (omega (arith, none.0)) (subst (λ (s : InputState). opens ≡ opens_after s.opens b) none.1 is))
    read

-- where inputs were read, and then more were opened and none is open, so it is of all together
pub stops-through : (a b : ℕ) (old mid new : InputState) → ReadAll a old mid → StopsBefore b mid new → StopsBefore (a + b) old new
stops-through a b old mid new read stops = record { opens = opens-through a b new.opens old mid read stops.opens; closed = stops.closed }

-- an input that is open behind more inputs is open behind these and those that were read before them
pub open-through : (task : Task) (source : Source) (a b room : ℕ) (old mid new : InputState) (name : List ℕ) → ReadAll a old mid → Stays old mid → a + b ≡ inputs_before task source → IsRoom old.files task source room
    → new.opens ≡ opens_after mid.opens (b + 1) → new.mark ≡ mid.may_fail name → IfTold mid.files name (λ content. LosesFront (Some content) new.rest room) → LeavesOpen task source old new name
open-through task source a b room old mid new name read stays before is_room opens mark left =
    let all : a + (b + 1) ≡ inputs_before task source + 1 = omega (arith, before) in
    record {
      opens = subst (λ (n : ℕ). new.opens ≡ opens_after old.opens n) all (opens-through a (b + 1) new.opens old mid read opens);
      mark = mark ∙ ap (λ (may_fail : List ℕ → Bool). may_fail name) stays.may_fail;
      room = room;
      is_room = is_room;
      left = subst (λ (files : Option Files). IfTold files name (λ content. LosesFront (Some content) new.rest room)) stays.files left;
    }

-- the names of stages and of more stages
pub names-append : (a b : List Stage) → input_names (a ++ b) ≡ input_names a ++ input_names b
names-append [] b = refl
names-append (stage ∷ a) b =
    ap (λ (names : List (List ℕ)). stage_names stage ++ names) (names-append a b) ∙ sym (append_assoc (stage_names stage) (input_names a) (input_names b))

-- as many names as inputs
pub names-count : (stages : List Stage) → length (input_names stages) ≡ input_count stages
names-count [] = refl
names-count (stage ∷ stages) =
    length-append (stage_names stage) (input_names stages) ∙ ap (λ (n : ℕ). length (stage_names stage) + n) (names-count stages)

-- what was read is at its end
read-end : (count : ℕ) (old new : InputState) → 0 < count → ReadAll count old new → IsAtEnd new.rest
read-end count old new some read =
    ⊎_elim (λ (all : (0 < count) × Opened count old new × IsAtEnd new.rest). all.2) (λ (none : (count ≡ 0) × (new ≡ old)). absurd (omega (arith, some, none.0))) read

-- and as many were opened
read-count : (count : ℕ) (old new : InputState) → 0 < count → ReadAll count old new → new.opens ≡ opens_after old.opens count
read-count count old new some read =
    ⊎_elim (λ (all : (0 < count) × Opened count old new × IsAtEnd new.rest). all.1.opens ∙ sym (after-some old.opens count some)) (λ (none : (count ≡ 0) × (new ≡ old)). absurd (omega (arith, some, none.0))) read

-- where all of some inputs were opened in turn and read, and then all of more, all of both were opened in turn
pub all-both : (a b : List (List ℕ)) (old mid new : InputState) → Stays old mid → ReadAll (length a) old mid → OpensAll a old mid → OpensAll b mid new → OpensAll (a ++ b) old new
all-both [] b old mid new stays read first second = subst (λ (s : InputState). OpensAll b s new) first second
all-both (x ∷ a) [] old mid new stays read first second =
    subst (λ (names : List (List ℕ)). OpensAll names old new) (sym (append-nil (x ∷ a))) (subst (λ (s : InputState). OpensInTurn (x ∷ a) old s) (sym second) first)
all-both (x ∷ a) (y ∷ b) old mid new stays read first second =
    turn-both (x ∷ a) (y ∷ b) old mid new stays (read-end (length (x ∷ a)) old mid (omega arith) read) first second

-- where all of some inputs were opened in turn and read, and then the first of more, the first of both were opened in turn
pub first-both : (a b : List (List ℕ)) (old mid new : InputState) → Stays old mid → ReadAll (length a) old mid → OpensAll a old mid → OpensFirst b mid new → OpensFirst (a ++ b) old new
first-both [] b old mid new stays read first second = subst (λ (s : InputState). OpensFirst b s new) first second
first-both (x ∷ a) b old mid new stays read first second =
    let all : List (List ℕ) = x ∷ a in
    let most : length (all ++ b) ≡ length all + length b = length-append all b in
    ⊎_elim
    (λ (same : new ≡ mid).
    let here : OpensInTurn all old new = subst (λ (s : InputState). OpensInTurn all old s) (sym same) first in
    inr (
      length all,
      omega (arith, most),
      ap (λ (s : InputState). s.opens) same ∙ read-count (length all) old mid (omega arith) read,
      subst (λ (names : List (List ℕ)). OpensInTurn names old new) (sym (take-append_seam all b)) here,
    ))
    (λ (some : (count : ℕ) × (count ≤ length b) × (new.opens ≡ opens_after mid.opens count) × OpensInTurn (take count b) mid new).
    inr (
      length all + some.0,
      omega (arith, most, some.1),
      opens-through (length all) some.0 new.opens old mid read some.2,
      subst (λ (names : List (List ℕ)). OpensInTurn names old new) (sym (take-append-add all b some.0))
          (turn-both all (take some.0 b) old mid new stays (read-end (length all) old mid (omega arith) read) first some.3),
    ))
    second

-- the first of some inputs are the first of these and more
pub first-more : (a b : List (List ℕ)) (old new : InputState) → OpensFirst a old new → OpensFirst (a ++ b) old new
first-more a b old new first =
    ⊎_elim (λ (same : new ≡ old). inl same)
    (λ (some : (count : ℕ) × (count ≤ length a) × (new.opens ≡ opens_after old.opens count) × OpensInTurn (take count a) old new).
    inr (
      some.0,
      omega (arith, length-append a b, some.1),
      some.2,
      subst (λ (names : List (List ℕ)). OpensInTurn names old new) (sym (take-append-le some.0 a b some.1)) some.3,
    ))
    first

-- the same for the inputs of stages
named : (stages : List Stage) (old new : InputState) → ReadAll (input_count stages) old new → ReadAll (length (input_names stages)) old new
named stages old new read = subst (λ (n : ℕ). ReadAll n old new) (sym (names-count stages)) read

pub stages-all : (a b : List Stage) (old mid new : InputState) → Stays old mid → ReadAll (input_count a) old mid → OpensAll (input_names a) old mid → OpensAll (input_names b) mid new → OpensAll (input_names (a ++ b)) old new
stages-all a b old mid new stays read first second =
    subst (λ (names : List (List ℕ)). OpensAll names old new) (sym (names-append a b)) (all-both (input_names a) (input_names b) old mid new stays (named a old mid read) first second)

pub stages-first : (a b : List Stage) (old mid new : InputState) → Stays old mid → ReadAll (input_count a) old mid → OpensAll (input_names a) old mid → OpensFirst (input_names b) mid new → OpensFirst (input_names (a ++ b)) old new
stages-first a b old mid new stays read first second =
    subst (λ (names : List (List ℕ)). OpensFirst names old new) (sym (names-append a b)) (first-both (input_names a) (input_names b) old mid new stays (named a old mid read) first second)

pub stages-more : (a b : List Stage) (old new : InputState) → OpensFirst (input_names a) old new → OpensFirst (input_names (a ++ b)) old new
stages-more a b old new first =
    subst (λ (names : List (List ℕ)). OpensFirst names old new) (sym (names-append a b)) (first-more (input_names a) (input_names b) old new first)

-- stages that were read, and then those after them, were read together
pub read-more : (first second : List Stage) (old mid new : InputState) (a b c : SoFar) → Stays old mid → HasRead first old mid a b → HasRead second mid new b c
    → HasRead (first ++ second) old new a c
read-more first second old mid new a b c stays read more = record {
  bytes =
      bytes-both old.files first second (λ f. reads a f ≡ Ok b) (λ g. reads b g ≡ Ok c) (λ f. reads a f ≡ Ok c) (λ f g p q. reads-append f g a b p ∙ ap (after (filled_count f)) q) read.bytes
      (subst (λ (files : Option Files). SomeBytes files second (λ g. reads b g ≡ Ok c)) stays.files more.bytes);
  inputs = subst (λ (n : ℕ). ReadAll n old new) (sym (input_count-append first second)) (read-both (input_count first) (input_count second) old mid new read.inputs more.inputs);
  turn = stages-all first second old mid new stays read.inputs read.turn more.turn;
}

-- over the bytes of stages that were read, and of those after them that stop, all together stop there
pub stop-bytes : (files : Option Files) (first second : List Stage) (a b : SoFar) (stop : Stop) → SomeBytes files first (λ f. reads a f ≡ Ok b) → SomeBytes files second (λ g. reads b g ≡ Err stop)
    → SomeBytes files (first ++ second) (λ f. reads a f ≡ Err (later (input_count first) stop))
stop-bytes files first second a b stop read stops =
    bytes-both files first second (λ f. (filled_count f ≡ input_count first) × (reads a f ≡ Ok b)) (λ g. reads b g ≡ Err stop) (λ f. reads a f ≡ Err (later (input_count first) stop))
    (λ f g p q. reads-append f g a b p.1 ∙ (ap (after (filled_count f)) q ∙ ap (λ (n : ℕ). let r : Result SoFar Stop = Err (later n stop) in r) p.0))
    (bytes-count files first (λ f. reads a f ≡ Ok b) read) stops

-- where stages were read, and those after them stop, all together stop there
pub read-stop : (first second : List Stage) (old mid new : InputState) (a b : SoFar) (stop : Stop) → Stays old mid → HasRead first old mid a b → StopsReading second mid new b stop
    → StopsReading (first ++ second) old new a (later (input_count first) stop)
read-stop first second old mid new a b stop stays read stops = record {
  bytes = stop-bytes old.files first second a b stop read.bytes (subst (λ (files : Option Files). SomeBytes files second (λ g. reads b g ≡ Err stop)) stays.files stops.bytes);
  opened = opens-both (input_count first) stop.count old mid new read.inputs stops.opened;
}

-- a stop of first stages is a stop of these and more
pub stop-first : (first second : List Stage) (old new : InputState) (a : SoFar) (stop : Stop) → StopsReading first old new a stop → StopsReading (first ++ second) old new a stop
stop-first first second old new a stop stops = record {
  bytes = bytes-first old.files first second (λ f. reads a f ≡ Err stop) (λ f. reads a f ≡ Err stop) (λ f s. reads-stop f s a stop) stops.bytes;
  opened = stops.opened;
}

-- stages that were read one after another, for what the program holds
pub reads-both : (version : Version) (first second : List Stage) (start held last : rust.SoFar) (old mid new : InputState) → Stays old mid → Reads version first start old mid held → Reads version second held mid new last
    → Reads version (first ++ second) start old new last
reads-both version first second start held last old mid new stays one two = λ so_far is.
    let a = one so_far is in
    let b = two a.0 a.1 in
    (b.0, b.1, read-more first second old mid new so_far a.0 b.0 stays a.2 b.2)

-- what stays through two steps stays through both together
pub stays-both : (old mid new : InputState) → Stays old mid → Stays mid new → Stays old new
stays-both old mid new one two = record { files = two.files ∙ one.files; may_fail = two.may_fail ∙ one.may_fail; faults = omega (arith, one.faults, two.faults) }
