mod NewCallers
