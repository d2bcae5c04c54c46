-- The lines of a status, piece by piece.
use Rattle.std.proofs.Common.{◌≡◌, ℕ, List, [], ◌∷◌, ◌++◌, ◌∙◌, ap, sym, refl, append_assoc}
use Rattle.tr_status.specs.declared.statuses.Front.{Front}
use Rattle.tr_status.specs.declared.values.Masks.{Masks}
use Rattle.std.specs.Fmt.{decimal}
use Rattle.tr_status.specs.Shown.{front_pieces, masks_pieces}
use Rattle.tr_status.specs.Statuses.{Lines, lines_text}
use Rattle.tr_status.specs.Texts.{before, texts}

pub texts_before : (xs : List (List ℕ)) (last : List ℕ) → texts xs ++ last ≡ before xs last
texts_before [] last = refl
texts_before (x ∷ xs) last = append_assoc x (texts xs) last ∙ ap (λ ys. x ++ ys) (texts_before xs last)

-- what the lines of a status show
abbrev pub shown : Front → Masks → Lines
shown v m = record {
  name = v.name.now;
  state = v.state.now;
  tgid = decimal v.tgid;
  pid = decimal v.pid;
  tracer = decimal v.tracer;
  threads = decimal v.threads;
  queued = decimal v.queued;
  limit = decimal v.limit;
  own = m.own;
  shared = m.shared;
  blocked = m.blocked;
  ignored = m.ignored;
  caught = m.caught;
}

pub shown_is : (v : Front) (m : Masks) (last : List ℕ) → before (front_pieces v) (before (masks_pieces m) last) ≡ lines_text (shown v m) ++ last
unfolding lines_text
shown_is v m last = sym (texts_before (front_pieces v ++ masks_pieces m) last)
