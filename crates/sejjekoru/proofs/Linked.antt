-- The scenario in pieces, of the library's own functions: of every run of the exported calls, whatever numbers and states their statements allow, the end
-- tells what the whole file reads as. It holds since the statements allow the definition's states only.
-- Assumes nothing.
use mathlib.Core.Path.{◌≡◌, refl, sym, ◌∙◌, ap}
use mathlib.Core.List.{List, [], ◌∷◌}
use Prim.Native.Nat.{ℕ, ◌≤◌}
use lib.ListN.{length}
use Rattle.paper.specs.Basics.{concat}
use Rattle.paper.specs.Text.{Text, Read}
use Rattle.paper.specs.Map.{Grid, read_map}
use Rattle.paper.proofs.Tests.{never, by_read}
use Rattle.numbers.specs.Numbers.{verdict_number, verdict_value}
use Rattle.numbers.specs.Tells.{Tells}
use Rattle.listing.specs.Reading.{Laid, Listing, listing}
use Rattle.link.specs.declared.Link.{Link}
use Rattle.link.specs.Link.{piece_bytes, is_open, finish_in, end_saying, Holds}
use Rattle.link.proofs.Linked.{Run, none, fed, whole_verdict, carriers_listed, pieces_whole}
use Rattle.sejjekoru.specs.Files.{MapTells, ScenarioTells}
use Rattle.sejjekoru.specs.Serial.{BeginTells, PieceTells, EndTells, saying_number, saying_value}

-- a run of sejjekoru_link_piece, each piece at most 256 bytes, each call with the link that the last one left
pub data Pieces : Link → List Text → Link → Type 0 where
  over : {l : Link} → Pieces l [] l
  sent : {l l' end : Link} {p : Text} {ps : List Text} {number value : ℕ} → length p ≤ piece_bytes → PieceTells l p number value l' → Pieces l' ps end → Pieces l (p ∷ ps) end

run_of : {l end : Link} {ps : List Text} → Pieces l ps end → Run l ps end
run_of over = none
run_of (sent h s more) = fed h s.after (run_of more)

-- what the end tells, and what stands in the link then
pub record WholeTells (map : Text) (ps : List Text) (number value : ℕ) (end : Link) : Type 0 where
  pub tells : Tells (verdict_number (whole_verdict (listing (read_map map) (concat ps)))) (verdict_value (whole_verdict (listing (read_map map) (concat ps)))) number value
  pub holds : Holds end (carriers_listed (listing (read_map map) (concat ps)))

-- For every map that sejjekoru_link_begin accepts and every list of pieces.
pub pieces-tell : (map : Text) (l l₀ : Link) (v : ℕ) → BeginTells (read_map map) l 0 v l₀ → (ps : List Text) (last : Link) → Pieces l₀ ps last
    → (number value : ℕ) (end : Link) → EndTells last number value end → WholeTells map ps number value end
pieces-tell map l l₀ v b ps last run number value end s =
    by_read (read_map map)
    (λ G e.
    let w = pieces_whole map G e l l₀ b.leaves ps last (run_of run) (end_saying (is_open last) (finish_in last)) end refl s.after in
    record {
      tells = record { numbered = s.tells.numbered ∙ ap saying_number w.answers; valued = s.tells.valued ∙ ap saying_value w.answers };
      holds = w.holds;
    })
    (λ n e. let y : 0 ≡ 14 = rw e at b.tells.numbered in never (cc))

-- ## Any two answers that a statement allows are equal, and so are the states and lists that they leave
pub begin-determined : {map : Read Grid} {l r r' : Link} {n v n' v' : ℕ} → BeginTells map l n v r → BeginTells map l n' v' r' → (n ≡ n') × (v ≡ v') × (r ≡ r')
begin-determined a b = (a.tells.numbered ∙ sym b.tells.numbered, a.tells.valued ∙ sym b.tells.valued, a.leaves ∙ sym b.leaves)

pub piece-determined : {l r r' : Link} {bytes : Text} {n v n' v' : ℕ} → PieceTells l bytes n v r → PieceTells l bytes n' v' r' → (n ≡ n') × (v ≡ v') × (r ≡ r')
piece-determined a b = (a.tells.numbered ∙ sym b.tells.numbered, a.tells.valued ∙ sym b.tells.valued, a.after.leaves ∙ sym b.after.leaves)

pub end-determined : {l r r' : Link} {n v n' v' : ℕ} → EndTells l n v r → EndTells l n' v' r' → (n ≡ n') × (v ≡ v') × (r ≡ r')
end-determined a b = (a.tells.numbered ∙ sym b.tells.numbered, a.tells.valued ∙ sym b.tells.valued, a.after.leaves ∙ sym b.after.leaves)

pub map-determined : {x : Laid} {before after after' : List ℕ} {n v k n' v' k' : ℕ} → MapTells x before n v k after → MapTells x before n' v' k' after' → (n ≡ n') × (v ≡ v') × (k ≡ k') × (after ≡ after')
map-determined a b = (a.tells.numbered ∙ sym b.tells.numbered, a.tells.valued ∙ sym b.tells.valued, a.bays_then ∙ sym b.bays_then, a.leaves ∙ sym b.leaves)

pub scenario-determined : {x : Listing} {s g s₁ g₁ s₂ g₂ : List ℕ} {n v n' v' : ℕ} → ScenarioTells x s g n v s₁ g₁ → ScenarioTells x s g n' v' s₂ g₂ → (n ≡ n') × (v ≡ v') × (s₁ ≡ s₂) × (g₁ ≡ g₂)
scenario-determined a b = (a.tells.numbered ∙ sym b.tells.numbered, a.tells.valued ∙ sym b.tells.valued, a.starts_then ∙ sym b.starts_then, a.goals_then ∙ sym b.goals_then)
