-- The report that is made of what was found.
use Rattle.std.specs.Prelude.{pos, ◌-ℤ◌}
use Rattle.cert_text.specs.declared.report.Report.{Report}
use Rattle.tsplib_points.specs.declared.file.File.{File}
use Rattle.mwt_tool.specs.declared.solver.Found.{Found}
use Rattle.mwt_tool.specs.declared.solver.Settings.{Settings}

abbrev pub report_of : File → Settings → Found → Report
report_of file settings found = record {
  version = 2;
  diamond = settings.diamond;
  unit = file.unit;
  merged = file.merged;
  points = found.points;
  hull = found.hull;
  candidates = found.candidates;
  live = found.part.live;
  skeleton = found.part.skeleton;
  tris = found.tris;
  method = found.method;
  lo = found.ends.lo;
  hi = found.ends.hi;
  bound = found.part.bound;
  gap = pos found.ends.hi -ℤ found.part.bound;
}
