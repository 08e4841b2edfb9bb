mod Once
