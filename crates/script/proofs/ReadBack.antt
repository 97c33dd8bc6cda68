-- From a draft of a command's line to what is written. Assumes nothing.
use Rattle.std.proofs.Common.{◌≡◌, ℕ, ◌<◌, ◌≤◌, List, [], ◌∷◌, ◌++◌, length, get_or, take, drop, sym, ap, ◌∙◌, subst, arith}
use Rattle.std.proofs.lemmas.List.{length_push, same_from_push, take_at}
use Rattle.script.specs.Format.{Meaning, meaning, name, shape, fields, front, commas, line, Accepted, Faulty}
use Rattle.script.specs.Parts.{parts, after}
use Rattle.script.specs.Verdicts.{accepted, Written, Unwritten, AWrittenCommandReadsBackAsItself}
use Rattle.script.specs.declared.command.Command.{Command}
use Rattle.script.specs.declared.command.Command.TheVariants as command
use Rattle.script.specs.declared.faults.LineFault.TheVariants.{Malformed, UnknownWord, FieldCount, BadField}
use Rattle.script.specs.declared.writing.WriteRefusal.{WriteRefusal}
use Rattle.script.specs.declared.writing.WriteRefusal.TheVariants as unwritten
use Rattle.script.proofs.Cuts.{cut_at, ends_commas, parts_joined}
use Rattle.script.proofs.Names.{name_whole}
use Rattle.script.proofs.Laws.{AllHeld, all_held, not_faulty, same_meaning, one_verdict}

-- The numbers of a command have 16 bits.
abbrev pub Sized : Command → Type 0
Sized (command.Hall r t) = (r ≤ 65535) × (t ≤ 65535)
Sized (command.PumpType m) = Unit {0}
Sized (command.Add t n) = (t ≤ 65535) × (n ≤ 65535)
Sized (command.Withdraw t n) = (t ≤ 65535) × (n ≤ 65535)
Sized (command.Take r) = r ≤ 65535
Sized (command.Shut r) = r ≤ 65535
Sized (command.Open r) = r ≤ 65535
Sized command.Report = Unit {0}
Sized (command.Note t) = Unit {0}

sized_held : (c : Command) → Sized c → AllHeld (shape (meaning c).0) (meaning c).1
sized_held (command.Hall r t) h = (h.0, (h.1, tt))
sized_held (command.PumpType m) h = (tt, tt)
sized_held (command.Add t n) h = (h.0, (h.1, tt))
sized_held (command.Withdraw t n) h = (h.0, (h.1, tt))
sized_held (command.Take r) h = (h, tt)
sized_held (command.Shut r) h = (h, tt)
sized_held (command.Open r) h = (h, tt)
sized_held command.Report h = tt
sized_held (command.Note t) h = (tt, tt)

-- a line of more than 81 bytes is malformed
pub too_long : (m : Meaning) → 81 < length (line m) → Faulty (line m) Malformed
too_long m h b f = omega (arith, ap length f.ended ∙ length_push b 10, f.short)

-- a command's line begins with its word
pub word_known : (m : Meaning) → Faulty (line m) UnknownWord → ⊥
word_known m r =
    let p = r.2 in
    let same : front m ≡ r.0 ++ commas r.1 = (same_from_push _ _ 10 10 p.form.ended).0 in
    let e : ◌≡◌ {A = List (List ℕ)} (r.0 ∷ r.1) (name m.0 ∷ after (commas (fields m))) =
    sym (parts_joined r.0 r.1 p.commaless.0 p.commaless.1) ∙ ap parts (sym same)
    ∙ cut_at (name m.0) (commas (fields m)) (name_whole m.0) (ends_commas (fields m)) in
    r.3 m.0 (ap (λ (fs : List (List ℕ)). get_or fs 0 []) e)

-- a command whose line is read as some command is that command
pub reads_itself : (c : Command) → Sized c → (p : Meaning) → Accepted (line (meaning c)) p → Accepted (line (meaning c)) (meaning c)
reads_itself c h p a =
    let same : front p ≡ front (meaning c) = sym (same_from_push _ _ 10 10 a.form.ended).0 in
    subst (Accepted (line (meaning c))) (same_meaning p (meaning c) (all_held _ _ a.fit) (sized_held c h) same) a

pub back : (m : Meaning) → Accepted (line m) m → AWrittenCommandReadsBackAsItself (line m) m
back m a = record { reads = a; alone = λ u j. one_verdict (line m) u (accepted m) j a }

-- what stands in the bytes once the line is copied over their start
pub written : (before after : List ℕ) (m : Meaning) (n : ℕ) → n ≡ length (line m) → n ≤ length before → after ≡ line m ++ drop n before → Accepted (line m) m → Written before m n after
written before after m n e h w a =
    let t : line m ≡ take n after = sym (ap (take n) w ∙ take_at (line m) (drop n before) n (sym e)) in
    record { count = e; room = h; bytes = w; back = subst (λ (l : List ℕ). AWrittenCommandReadsBackAsItself l m) t (back m a) }

not_refused : (m : Meaning) (room : ℕ) (e : WriteRefusal) → Accepted (line m) m → 81 ≤ room → Unwritten m room e → ⊥
not_refused m room unwritten.Malformed a h u = not_faulty (line m) m Malformed a u
not_refused m room unwritten.FieldCount a h u = not_faulty (line m) m FieldCount a u
not_refused m room unwritten.BadField a h u = not_faulty (line m) m (BadField u.0) a u.1
not_refused m room unwritten.NoRoom a h u = omega (arith, u.1, length_push (front m) 10, a.form.short)

-- what was read can be written where a well-formed line has room
pub accepted_writes : (l : List ℕ) (m : Meaning) (room : ℕ) (e : WriteRefusal) → Accepted l m → 81 ≤ room → Unwritten m room e → ⊥
accepted_writes l m room e a h u = not_refused m room e (subst (λ (x : List ℕ). Accepted x m) a.form.ended a) h u
