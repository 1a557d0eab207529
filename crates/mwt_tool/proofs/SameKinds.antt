-- Two methods, and two kinds of lines, are one.
use Rattle.std.proofs.Common.{◌≡◌, refl, sym}
use Rattle.std.specs.Prelude.{◌↔◌}
use Rattle.cert_text.specs.declared.report.LineKind.{LineKind}
use Rattle.cert_text.specs.declared.report.LineKind.TheVariants.{Hull, Inner, Skeleton}
use Rattle.cert_text.specs.declared.report.Method.{Method}
use Rattle.cert_text.specs.declared.report.Method.TheVariants.{Faces, Flips}

-- two methods, each of which is faces where the other is
pub same_method : (m k : Method) → (m ≡ Faces → k ≡ Faces) → (k ≡ Faces → m ≡ Faces) → m ≡ k
same_method Faces k to back = sym (to refl)
same_method Flips Faces to back = back refl
same_method Flips Flips to back = refl

-- two kinds of lines, each of which is of the hull, and of the skeleton, where the other is
pub same_kind : (m k : LineKind) → (m ≡ Hull) ↔ (k ≡ Hull) → (m ≡ Skeleton) ↔ (k ≡ Skeleton) → m ≡ k
same_kind Hull k h s = sym (h.0 refl)
same_kind Skeleton k h s = sym (s.0 refl)
same_kind Inner Hull h s = h.1 refl
same_kind Inner Skeleton h s = s.1 refl
same_kind Inner Inner h s = refl
