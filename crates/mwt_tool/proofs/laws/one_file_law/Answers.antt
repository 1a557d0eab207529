use Rattle.mwt_tool.proofs.OneInput.{one_input_alike, one_text}
use Rattle.mwt_tool.proofs.OneReport.{one_file_alike}
use Rattle.mwt_tool.proofs.laws.one_file_law.Goals as goal

pub returns-clause-reports : goal.returns-clause-reports
returns-clause-reports c = one_file_alike

pub returns-clause-texts : goal.returns-clause-texts
returns-clause-texts c = one_input_alike

pub returns-clause-bytes : goal.returns-clause-bytes
returns-clause-bytes c = one_text
