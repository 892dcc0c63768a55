mod Through
